-- Copying to a position is writing byte after byte.
use mathlib.Core.Path.{refl, sym, ◌∙◌}
use lib.Seq.{sets-eq}
use Rattle.entries.proofs.write.Writer.write_bytes.Goals as goal

pub returns : goal.returns
returns c =
    let out = c.args.self.now in
    record { same_buffer = refl; written = c.copy_in.ensures ∙ sym (sets-eq c.args.src.now out.out.now out.at c.requires); end = refl }
