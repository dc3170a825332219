-- Laws of reading the command of a PCMD.
use Rattle.std.specs.Prelude.{Result, Ok, Err}
use Rattle.std.specs.Result.{is_err}
use mathlib.Core.Path.{◌≡◌}
use mathlib.Core.Bool.{true, false}
use Prim.Native.Nat.{ℕ, ◌≤◌, ◌<◌}
use lib.Dec.{leb}
use borrow.Author.Tests.{le-leb, leb-true, leb-false}
use Rattle.dpa.proofs.Bool.{by_test}
use Rattle.dpa.specs.declared.error.ErrN.{ErrN}
use Rattle.dpa.specs.declared.error.ErrN.TheVariants.{Pcmd}
use Rattle.lights.specs.Lights.{command_pcmd, command_of, command_read}
use Rattle.lights.specs.declared.apply.Command.{Command}
use Rattle.lights.specs.declared.apply.Command.TheVariants.{Lower}

module _ (p : ℕ) where
  -- set, raise and lower
  pub read_known : p ≤ command_pcmd Lower → command_read p ≡ Ok (command_of p)
  unfolding command_read
  read_known h = rw (le-leb _ _ h)

  -- a command is read of these only
  pub read_ok : (c : Command) → command_read p ≡ Ok c → p ≤ command_pcmd Lower
  unfolding command_read
  read_ok c e = by_test (leb p (command_pcmd Lower)) (leb-true _ _) (λ t. let f = rw t at e in absurd (cc))

  -- any other PCMD is error 2
  pub read_err : (n : ErrN) → command_read p ≡ Err n → (command_pcmd Lower < p) × (n ≡ Pcmd)
  unfolding command_read
  read_err n e =
      by_test (leb p (command_pcmd Lower)) (λ t. let f = rw t at e in absurd (cc)) (λ t. let f = rw t at e in (leb-false _ _ t, cc))

  -- the same by the test of the code
  pub read_tested : {r : Result Command ErrN} → r ≡ command_read p → is_err r ≡ false → p ≤ command_pcmd Lower
  unfolding command_read
  read_tested q e = by_test (leb p (command_pcmd Lower)) (leb-true _ _) (λ t. let f = rw (q, t) at e in absurd (cc))

  pub read_refused : {r : Result Command ErrN} → r ≡ command_read p → is_err r ≡ true → command_pcmd Lower < p
  unfolding command_read
  read_refused q e = by_test (leb p (command_pcmd Lower)) (λ t. let f = rw (q, t) at e in absurd (cc)) (leb-false _ _)
