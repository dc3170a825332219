-- The output of a compile call that is not refused can be printed: it has all its requests, each with a header.
use mathlib.Core.List.{List, [], ◌∷◌}
use mathlib.Core.Path.{◌≡◌, sym, subst}
use Prim.Native.Nat.{ℕ}
use lib.ListN.{length}
use lib.Seq.{take_at}
use Rattle.dpa.specs.Lists.{All}
use Rattle.book.specs.Book.{scene_of}
use Rattle.output.specs.Requests.{scene_requests}
use Rattle.output.specs.Output.{lengths, output}
use Rattle.scene.specs.Call.{CompileResult, output_of, compile_for}
use Rattle.output.proofs.Batches.{batch_limits}
use Rattle.output.proofs.Outputs.{lengths_length}
use Rattle.output.proofs.Sizes.{FrameSized, requests_fit}
use Rattle.scene.proofs.Refusals.{no_fault_good, accepted, output_is}
use Rattle.output.proofs.CompleteOutputs.{output_complete}
use Rattle.scenedump.specs.Output.{RequestLength, Printable}

lengths_headed : (rs : List (List ℕ)) → All FrameSized rs → All RequestLength (lengths rs)
lengths_headed [] a = tt
lengths_headed (r ∷ rs) a = (a.0.0, lengths_headed rs a.1)

output_printable : (rs : List (List ℕ)) → All FrameSized rs → Printable (output rs)
output_printable rs a =
    record { complete = output_complete rs; headed = rw (take_at (lengths rs) _ (length rs) (lengths_length rs)) (lengths_headed rs a) }

-- c is the result of compiling, and not a refusal
pub compiled_printable : (b : List ℕ) (k a h : ℕ) (out : List ℕ) (c : CompileResult) → c ≡ compile_for b k a h out → c.refusal ≡ 0
    → Printable (output_of c)
compiled_printable b k a h out c e z =
    let ss = scene_of b k in
    subst Printable (sym (output_is b k a h out c e z))
    (output_printable (scene_requests a h ss) (requests_fit batch_limits _ ss (no_fault_good ss (accepted b k a h out c e z).1.fault_free)))
