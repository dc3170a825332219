-- What is printed of a compiled output.
use Rattle.std.specs.Prelude.{List, ℕ, ◌≤◌, get_or, take, drop}
use Rattle.dpa.specs.Frame.{header_size}
use Rattle.dpa.specs.Lists.{All}
use Rattle.output.specs.Output.{CompleteOutput}

-- the length of a request: it has at least a header
abbrev pub RequestLength : ℕ → Type 0
RequestLength n = header_size ≤ n

-- an output that has all the requests that it announces
pub record Printable (o : List ℕ) : Type 0 where
  pub complete : CompleteOutput o
  pub headed : All RequestLength (take (get_or o 0 0) (drop 1 o))
