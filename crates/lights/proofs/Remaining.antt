-- The lowest selected lamp takes the first power entry and has the first level; the other lamps are those of the mask without it.
use mathlib.Core.Path.{◌≡◌, refl, sym, ap, ◌∙◌}
use mathlib.Core.Bool.{cond}
use mathlib.Core.List.{List, [], ◌∷◌}
use Prim.Native.Nat.{ℕ, zero, suc, ◌-◌, ◌*◌, ◌/◌, ◌%◌, ◌^◌, ◌<◌}
use native.Mathlib.Omega.{arith}
use lib.ListN.{length, get_or}
use lib.Count.{count_trailing_zeros}
use lib.Dec.{ltb}
use borrow.Author.Tests.{lt-ltb, le-ltb, ltb-true, ltb-false}
use Rattle.dpa.specs.declared.settings.Settings.{Settings}
use Rattle.dpa.proofs.Bool.{by_test}
use Rattle.lights.specs.Bits.{bits}
use Rattle.lights.specs.Lamp.{off, actual_level}
use Rattle.lights.specs.Lights.{lamps_after, levels_before}
use Rattle.lights.specs.Remaining.{lamp_changed}
use Rattle.lights.proofs.Bits.{bits_cons, by_lowest}
use Rattle.lights.specs.declared.apply.Command.{Command}
use Rattle.lights.specs.declared.lamp.Lamp.{Lamp}
use Rattle.lights.specs.declared.power.PowerEntry.{PowerEntry}

-- lamp i + 1 of n is lamp i of the n - 1 after the first
ltb_later : (i n : ℕ) → ltb (suc i) n ≡ ltb i (n - 1)
ltb_later i n =
    by_test (ltb i (n - 1)) (λ t. let h = ltb-true i (n - 1) t in lt-ltb (suc i) n (omega arith) ∙ sym t)
    (λ f. let h = ltb-false i (n - 1) f in le-ltb (suc i) n (omega arith) ∙ sym f)

module _ (c : Command) where
  -- a lamp after the first
  changed_later : (n i power seconds : ℕ) (x : Lamp) (ls : List Lamp)
      → lamp_changed c n (suc i) power seconds (x ∷ ls) ≡ x ∷ lamp_changed c (n - 1) i power seconds ls
  unfolding lamp_changed
  changed_later n i power seconds x ls = rw (ltb_later i n) (by_test (ltb i (n - 1)) (λ t. rw t) (λ f. rw f))

  lamps_odd : (k m n : ℕ) (e : PowerEntry) (es : List PowerEntry) (ls : List Lamp) → m % 2 ≡ 1 → length ls ≡ suc k
      → lamps_after c n (bits (suc k) m) (e ∷ es) ls ≡ lamps_after c n (bits (suc k) (m - 1)) es (lamp_changed c n 0 e.power e.seconds ls)
  unfolding lamps_after lamp_changed
  lamps_odd k m n e es [] z l = absurd (omega arith)
  lamps_odd k m n e es (x ∷ ls) z l =
      rw (bits_cons k m 1 (m / 2) z refl, bits_cons k (m - 1) 0 (m / 2) (omega arith) (omega arith)) (by_test (ltb 0 n) (λ t. rw t) (λ f. rw f))

  lamps_even : (k m i r n : ℕ) (e : PowerEntry) (es : List PowerEntry) (ls : List Lamp) → m % 2 ≡ 0 → length ls ≡ suc k
      → ((xs : List Lamp) → length xs ≡ k
      → lamps_after c (n - 1) (bits k (m / 2)) (e ∷ es) xs ≡ lamps_after c (n - 1) (bits k r) es (lamp_changed c (n - 1) i e.power e.seconds xs))
      → lamps_after c n (bits (suc k) m) (e ∷ es) ls ≡ lamps_after c n (bits (suc k) (r * 2)) es (lamp_changed c n (suc i) e.power e.seconds ls)
  unfolding lamps_after
  lamps_even k m i r n e es [] z l p = absurd (omega arith)
  lamps_even k m i r n e es (x ∷ ls) z l p =
      rw (bits_cons k m 0 (m / 2) z refl, bits_cons k (r * 2) 0 r (omega arith) (omega arith), changed_later n i e.power e.seconds x ls)
      (ap (λ (xs : List Lamp). x ∷ xs) (p ls (omega arith)))

  -- the lowest lamp is changed, then the others
  pub lamps_lowest : (k m : ℕ) → (m ≡ 0 → ⊥) → m < 2 ^ k → (n : ℕ) (e : PowerEntry) (es : List PowerEntry) (ls : List Lamp) → length ls ≡ k
      → lamps_after c n (bits k m) (e ∷ es) ls
      ≡ lamps_after c n (bits k (m - 2 ^ count_trailing_zeros k m)) es (lamp_changed c n (count_trailing_zeros k m) e.power e.seconds ls)
  lamps_lowest =
      by_lowest
      (λ (k m i r : ℕ). (n : ℕ) (e : PowerEntry) (es : List PowerEntry) (ls : List Lamp) → length ls ≡ k
      → lamps_after c n (bits k m) (e ∷ es) ls ≡ lamps_after c n (bits k r) es (lamp_changed c n i e.power e.seconds ls))
      (λ k m z n e es ls l. lamps_odd k m n e es ls z l)
      (λ k m i r some z p n e es ls l. lamps_even k m i r n e es ls z l (p (n - 1) e es))

  -- no lamp remains
  pub lamps_none : (k n : ℕ) (es : List PowerEntry) (ls : List Lamp) → lamps_after c n (bits k 0) es ls ≡ ls
  unfolding lamps_after bits
  lamps_none zero n es ls = refl
  lamps_none (suc k) n es [] = refl
  lamps_none (suc k) n es (l ∷ ls) = ap (λ (xs : List Lamp). l ∷ xs) (lamps_none k (n - 1) es ls)

module _ (s : Settings) where
  -- the level of lamp i, 0 if it is not one of the first n
  abbrev pub level_of_lamp : ℕ → List Lamp → ℕ → ℕ
  level_of_lamp n ls i = cond (ltb i n) (actual_level s (get_or ls i off).level) 0

  levels_odd : (k m n : ℕ) (ls : List Lamp) → m % 2 ≡ 1 → length ls ≡ suc k
      → levels_before s n (bits (suc k) m) ls ≡ level_of_lamp n ls 0 ∷ levels_before s n (bits (suc k) (m - 1)) ls
  unfolding levels_before
  levels_odd k m n [] z l = absurd (omega arith)
  levels_odd k m n (x ∷ ls) z l = rw (bits_cons k m 1 (m / 2) z refl, bits_cons k (m - 1) 0 (m / 2) (omega arith) (omega arith))

  levels_even : (k m i r n : ℕ) (ls : List Lamp) → m % 2 ≡ 0 → length ls ≡ suc k
      → ((xs : List Lamp) → length xs ≡ k → levels_before s (n - 1) (bits k (m / 2)) xs ≡ level_of_lamp (n - 1) xs i ∷ levels_before s (n - 1) (bits k r) xs)
      → levels_before s n (bits (suc k) m) ls ≡ level_of_lamp n ls (suc i) ∷ levels_before s n (bits (suc k) (r * 2)) ls
  unfolding levels_before
  levels_even k m i r n [] z l p = absurd (omega arith)
  levels_even k m i r n (x ∷ ls) z l p =
      rw (bits_cons k m 0 (m / 2) z refl, bits_cons k (r * 2) 0 r (omega arith) (omega arith), ltb_later i n) (p ls (omega arith))

  -- the level of the lowest lamp, then those of the others
  pub levels_lowest : (k m : ℕ) → (m ≡ 0 → ⊥) → m < 2 ^ k → (n : ℕ) (ls : List Lamp) → length ls ≡ k
      → levels_before s n (bits k m) ls ≡ level_of_lamp n ls (count_trailing_zeros k m) ∷ levels_before s n (bits k (m - 2 ^ count_trailing_zeros k m)) ls
  levels_lowest =
      by_lowest
      (λ (k m i r : ℕ). (n : ℕ) (ls : List Lamp) → length ls ≡ k → levels_before s n (bits k m) ls ≡ level_of_lamp n ls i ∷ levels_before s n (bits k r) ls)
      (λ k m z n ls l. levels_odd k m n ls z l)
      (λ k m i r some z p n ls l. levels_even k m i r n ls z l (p (n - 1)))

  -- no lamp remains
  pub levels_none : (k n : ℕ) (xs : List Lamp) → levels_before s n (bits k 0) xs ≡ []
  unfolding levels_before bits
  levels_none zero n xs = refl
  levels_none (suc k) n [] = refl
  levels_none (suc k) n (x ∷ xs) = levels_none k (n - 1) xs
