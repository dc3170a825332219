-- `frame::write_response_header` meets its contract: six bytes are copied to the front, two are stored after them.
use mathlib.Core.List.{List, [], ◌∷◌, ◌++◌}
use mathlib.Core.Path.{ap, ◌∙◌}
use Prim.Native.Nat.{ℕ}
use native.Mathlib.Omega.{arith}
use lib.ListN.{length}
use Rattle.dpa.specs.Frame.{header_size}
use Rattle.dpa.specs.Lists.{overwrite_front}
use Rattle.dpa.proofs.Lists.{sets_after_copy}
use Rattle.dpa.proofs.frame.write_response_header.Goals as goal

pub returns : goal.returns
returns c =
    let a = c.args in
    let header = c.header-header in
    let copy = c.copy in
    let last-two = a.error ∷ a.settings.dpa_value ∷ [] in
    sets_after_copy header.result last-two a.response.now copy.new.dst header_size (ap length header.ensures) (omega arith) copy.ensures
    ∙ ap (λ (h : List ℕ). overwrite_front (h ++ last-two) a.response.now) header.ensures
