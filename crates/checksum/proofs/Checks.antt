-- Laws of the code check.
use mathlib.Core.Path.{◌≡◌, refl}
use mathlib.Core.List.{List, [], ◌∷◌}
use mathlib.Core.Bool.{Bool, true, false, cond, ◌&&◌}
use Prim.Native.Nat.{ℕ, ◌≤◌}
use native.Mathlib.Omega.{arith}
use lib.Dec.{eqb}
use lib.ListN.{length, get_or}
use borrow.Author.Tests.{eqb-false}
use Rattle.dpa.specs.Reply.{Reply, error_reply}
use Rattle.dpa.proofs.Bool.{by_cond}
use Rattle.checksum.specs.Check.{pdata_length, image_of, load_flag, image_error, image_matches, check_answer, code_check}

module _ (x p : List ℕ) where
  -- what holds for every error and for every answer holds for a code check
  pub check_cases : (P : Reply Bool → Type 0) → ((e : ℕ) → (e ≡ 0 → ⊥) → P (error_reply false e)) → ((b : Bool) → P (check_answer b (image_of p))) → P (code_check x p)
  unfolding code_check
  check_cases P errors answers =
      by_cond P (eqb (length p) pdata_length) _ _
      (λ q. by_cond P (eqb (image_error (image_of p)) 0) _ _ (λ z. answers (image_matches x (image_of p))) (λ z. errors (image_error (image_of p)) (eqb-false _ _ z)))
      (λ q. errors 5 (λ z. omega arith))

  -- an error does not set the load mark and has no data
  pub check_harmless : ((code_check x p).error ≡ 0 → ⊥) → ((code_check x p).after ≡ false) × ((code_check x p).bytes ≡ [])
  check_harmless =
      check_cases (λ (a : Reply Bool). (a.error ≡ 0 → ⊥) → (a.after ≡ false) × (a.bytes ≡ []))
      (λ e n h. (refl, refl)) (λ b h. absurd (h refl))

  -- a response has at most one data byte
  pub check_max : length (code_check x p).bytes ≤ 1
  check_max = check_cases (λ (a : Reply Bool). length a.bytes ≤ 1) (λ e n. omega arith) (λ b. omega arith)

  -- the load mark is set exactly on a match with flag bit 0
  pub load_on_match : (code_check x p).after ≡ (eqb (get_or (code_check x p).bytes 0 0) 1 && load_flag (get_or p 0 0))
  load_on_match =
      check_cases (λ (a : Reply Bool). a.after ≡ (eqb (get_or a.bytes 0 0) 1 && load_flag (get_or p 0 0)))
      (λ e n. refl) answer
    where
      answer : (b : Bool) → (b && load_flag (get_or p 0 0)) ≡ (eqb (get_or (cond b 1 0 ∷ []) 0 0) 1 && load_flag (get_or p 0 0))
      answer true = refl
      answer false = refl
