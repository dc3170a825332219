-- What is written through a writer.
use Rattle.std.specs.Prelude.{List, ◌≡◌, ℕ, ◌+◌, ◌≤◌, length}
use Rattle.std.proofs.lemmas.List.Edits.{sets}
use Rattle.entries.specs.declared.write.Writer.{Writer}

-- there is room for n more bytes
abbrev pub HasRoom : Writer → ℕ → Type 0
HasRoom out n = out.at + n ≤ length out.out.now

-- these bytes are written to the same buffer, and the next one goes after them
pub record Writes (before after : Writer) (bytes : List ℕ) : Type 0 where
  pub same_buffer : after.out.ghost_name ≡ before.out.ghost_name
  pub written : after.out.now ≡ sets before.out.now before.at bytes
  pub end : after.at ≡ before.at + length bytes
