-- Laws of node sets: which addresses a set names, and that reading and writing a set are inverse.
use Rattle.std.specs.Bool.{MatchBool}
use Rattle.std.specs.List.{AllWithin, HoldsAt}
use mathlib.Core.Path.{◌≡◌, refl, sym, ap, ap₂, ◌∙◌}
use mathlib.Core.Logic.{◌↔◌}
use mathlib.Core.List.{List, ◌∷◌}
use mathlib.Core.Bool.{Bool, true, false, cond, not, ◌&&◌, ◌||◌, true≢false}
use Prim.Native.Nat.{ℕ, zero, suc, ◌+◌, ◌-◌, ◌*◌, ◌/◌, ◌%◌, ◌^◌, ◌≤◌, ◌<◌}
use native.Mathlib.Nat.{zero-div, div-eq_of_lt}
use native.Mathlib.Omega.{arith}
use lib.ListN.{length, get_or, set, get_or-eq_default}
use lib.Seq.{ext_get_or, get_or-set_same, get_or-set_other}
use lib.Count.{ones, ones_in}
use lib.Dec.{eqb, ltb, leb}
use borrow.Author.Tests.{ltb-true, ltb-false, leb-true, leb-false, eqb-true, eqb-false, eq-eqb, ne_eqb, not-true, not-false}
use Rattle.dpa.specs.Lists.{Bytes, bit_of, all_below, number_below}
use Rattle.dpa.specs.Settings.{last_address}
use Rattle.dpa.specs.NodeSet.{node_set_size, selects, selects_any, node_set_ok, Selectable, byte_of, tabulate, node_set_of}
use Rattle.dpa.proofs.Bool.{and_left, and_right, both, or_right, never_true, by_test, all_below_intro, all_below_elim, all_below_fails}

-- bit k of byte i is that of address 8 i + k
pub selects_bit : (s : List ℕ) (i k : ℕ) → k < 8 → selects s (8 * i + k) ≡ bit_of (get_or s i 0) k
unfolding selects
selects_bit s i k h =
    let q : (8 * i + k) / 8 ≡ i = omega arith in
    let r : (8 * i + k) % 8 ≡ k = omega arith in
    ap₂ (λ (x y : ℕ). bit_of (get_or s x 0) y) q r

-- the same from the byte that the code reads
pub selects_at : (s : List ℕ) (a : ℕ) {i : ℕ} → i ≡ a / 8 → bit_of (get_or s i 0) (a % 8) ≡ selects s a
unfolding selects
selects_at s a e = ap (λ (x : ℕ). bit_of (get_or s x 0) (a % 8)) e

-- a byte that is 0 names no address
pub byte_none : (s : List ℕ) (a : ℕ) → get_or s (a / 8) 0 ≡ 0 → selects s a ≡ false
unfolding selects
byte_none s a z = rw (z, zero-div)

-- the first byte has the bits of addresses 0 to 7
pub selects_first : (b : ℕ) (s : List ℕ) (k : ℕ) → k < 8 → selects (b ∷ s) k ≡ bit_of b k
selects_first b s k h = ap (selects (b ∷ s)) (let e : k ≡ 8 * 0 + k = omega arith in e) ∙ selects_bit (b ∷ s) 0 k h

-- without the first byte, addresses are lower by 8
pub selects_next : (b : ℕ) (s : List ℕ) (a : ℕ) → selects (b ∷ s) (8 + a) ≡ selects s a
unfolding selects
selects_next b s a =
    let q : (8 + a) / 8 ≡ suc (a / 8) = omega arith in
    let r : (8 + a) % 8 ≡ a % 8 = omega arith in
    ap₂ (λ (x y : ℕ). bit_of (get_or (b ∷ s) x 0) y) q r

-- a set that is too short for an address does not name it
pub selects_outside : (s : List ℕ) (a : ℕ) → length s ≤ a / 8 → selects s a ≡ false
selects_outside s a h = byte_none s a (get_or-eq_default s 0 h)

-- a set that names an address is long enough for it
pub selects_inside : (s : List ℕ) (a : ℕ) → selects s a ≡ true → a / 8 < length s
selects_inside s a e =
    by_test (ltb (a / 8) (length s)) (λ t. ltb-true _ _ t) (λ t. absurd (true≢false (sym e ∙ selects_outside s a (ltb-false _ _ t))))

-- the byte of an address that is named is no less than the value of its bit
pub named_min : (s : List ℕ) (a : ℕ) → selects s a ≡ true → 2 ^ (a % 8) ≤ get_or s (a / 8) 0
unfolding selects
named_min s a e =
    by_test (leb (2 ^ (a % 8)) (get_or s (a / 8) 0)) (λ t. leb-true _ _ t)
    (λ t. let z : get_or s (a / 8) 0 / 2 ^ (a % 8) ≡ 0 = div-eq_of_lt (leb-false _ _ t) in
    absurd (true≢false (sym e ∙ ap (λ (x : ℕ). eqb (x % 2) 1) z)))

-- a set that names an address is not empty
pub named_any : (s : List ℕ) (a : ℕ) → a ≤ last_address → selects s a ≡ true → selects_any s ≡ true
unfolding selects_any
named_any s a h e =
    by_test (all_below (suc last_address) (λ x. not (selects s x)))
    (λ t. let n = not-true (selects s a) (all_below_elim (suc last_address) (λ x. not (selects s x)) t a (omega arith)) in
    let z : ◌≡◌ {A = ℕ} 0 1 = cc in absurd (omega arith))
    (λ t. rw t refl)

-- bytes with the same bits are equal
byte_same : (f g : ℕ → Bool) → ((k : ℕ) → k < 8 → f k ≡ g k) → byte_of f ≡ byte_of g
unfolding byte_of
byte_same f g e =
    rw (e 0 (omega arith), e 1 (omega arith), e 2 (omega arith), e 3 (omega arith), e 4 (omega arith), e 5 (omega arith), e 6 (omega arith), e 7 (omega arith))

-- a bit is 0 or 1
bit_small : (b : Bool) → cond b 1 0 < 2
bit_small true = omega arith
bit_small false = omega arith

-- eight bits make a byte
pub byte_small : (f : ℕ → Bool) → byte_of f < 256
unfolding byte_of
byte_small f =
    omega (arith, bit_small (f 0), bit_small (f 1), bit_small (f 2), bit_small (f 3), bit_small (f 4), bit_small (f 5), bit_small (f 6), bit_small (f 7))

-- whether a byte is made of its bits
made_of_bits : ℕ → Bool
made_of_bits b = eqb (byte_of (bit_of b)) b

-- every byte is; proved by testing each
bits_byte : (b : ℕ) → b < 256 → byte_of (bit_of b) ≡ b
unfolding made_of_bits byte_of all_below
bits_byte b h = eqb-true _ b (all_below_elim 256 made_of_bits refl b h)

-- byte i of a set is made of the bits of its addresses
byte_at : (s : List ℕ) (i : ℕ) → get_or s i 0 < 256 → byte_of (λ k. selects s (8 * i + k)) ≡ get_or s i 0
byte_at s i h = byte_same (λ k. selects s (8 * i + k)) (bit_of (get_or s i 0)) (selects_bit s i) ∙ bits_byte (get_or s i 0) h

-- a byte of which no address is named is 0
pub byte_clear : (s : List ℕ) (i : ℕ) → get_or s i 0 < 256 → ((k : ℕ) → k < 8 → selects s (8 * i + k) ≡ false) → get_or s i 0 ≡ 0
unfolding byte_of
byte_clear s i small clear = sym (byte_at s i small) ∙ byte_same (λ k. selects s (8 * i + k)) (λ _. false) clear

-- a byte that is not 0 names an address
pub byte_any : (s : List ℕ) (i : ℕ) → i < node_set_size → get_or s i 0 < 256 → ¬ (get_or s i 0 ≡ 0) → selects_any s ≡ true
byte_any s i h small n = by_test (selects_any s) (λ t. t) (λ t. absurd (n (byte_clear s i small (clear t))))
  where
    clear : selects_any s ≡ false → (k : ℕ) → k < 8 → selects s (8 * i + k) ≡ false
    clear t k l =
        never_true (selects s (8 * i + k)) (λ e. true≢false (sym (named_any s (8 * i + k) (omega arith) e) ∙ t))

-- one more byte that is 0
pub zeros_next : (s : List ℕ) (i : ℕ) → ((k : ℕ) → k < i → get_or s k 0 ≡ 0) → get_or s i 0 ≡ 0 → (k : ℕ) → k < i + 1 → get_or s k 0 ≡ 0
zeros_next s i h e k l =
    by_test (eqb k i) (λ t. ap (λ (j : ℕ). get_or s j 0) (eqb-true k i t) ∙ e) (λ t. h k (omega (arith, eqb-false k i t)))

-- bytes that are all 0 name none
pub zeros_none : (s : List ℕ) → ((i : ℕ) → i < node_set_size → get_or s i 0 ≡ 0) → selects_any s ≡ false
unfolding selects_any
zeros_none s z =
    ap not (all_below_intro (suc last_address) (λ x. not (selects s x)) (λ a h. ap not (byte_none s a (z (a / 8) (omega arith)))))

-- a scene can be compiled for a set exactly if it names a node, and not address 0
pub set_ok_exact : (s : List ℕ) → Selectable s ↔ (node_set_ok s ≡ true)
unfolding node_set_ok selects_any
set_ok_exact s = (
  λ f. both (ap not f.zero_clear) (named_any s f.address f.address_max f.named),
  λ e. let clear = not-true (selects s 0) (and_left _ _ e) in
      all_below_fails (suc last_address) (λ a. not (selects s a)) (not-true _ (and_right (not (selects s 0)) _ e))
      (λ a h f. let named = not-false (selects s a) f in
      record { zero_clear = clear; address = a; address_min = positive a clear named; address_max = omega arith; named = named }),
)
  where
    positive : (a : ℕ) → selects s 0 ≡ false → selects s a ≡ true → 1 ≤ a
    positive zero f t = let z : ◌≡◌ {A = ℕ} 0 1 = cc in absurd (omega arith)
    positive (suc a) f t = omega arith

-- ---- reading and writing

-- element i of a list that a function gives
bytes_of_at : (n : ℕ) (f : ℕ → ℕ) (i : ℕ) → i < n → get_or (tabulate n f) i 0 ≡ f i
unfolding tabulate
bytes_of_at zero f i h = absurd (omega arith)
bytes_of_at (suc n) f zero h = refl
bytes_of_at (suc n) f (suc i) h = bytes_of_at n (λ j. f (suc j)) i (omega arith)

-- its length
bytes_of_length : (n : ℕ) (f : ℕ → ℕ) → length (tabulate n f) ≡ n
unfolding tabulate
bytes_of_length zero f = refl
bytes_of_length (suc n) f = ap suc (bytes_of_length n (λ j. f (suc j)))

-- bit k of a byte that is made of bits
bit_of_byte : (f : ℕ → Bool) (k : ℕ) → k < 8 → bit_of (byte_of f) k ≡ f k
unfolding byte_of
bit_of_byte f k h = ap (λ (d : ℕ). eqb d 1) (digit k h) ∙ one (f k)
  where
    one : (b : Bool) → eqb (cond b 1 0) 1 ≡ b
    one true = refl
    one false = refl

    small : (j : ℕ) → cond (f j) 1 0 < 2
    small j = bit_small (f j)

    digit : (k : ℕ) → k < 8 → byte_of f / 2 ^ k % 2 ≡ cond (f k) 1 0
    digit zero h = omega (arith, small 0)
    digit (suc zero) h = omega (arith, small 0, small 1)
    digit (suc (suc zero)) h = omega (arith, small 0, small 1, small 2)
    digit (suc (suc (suc zero))) h = omega (arith, small 0, small 1, small 2, small 3)
    digit (suc (suc (suc (suc zero)))) h = omega (arith, small 0, small 1, small 2, small 3, small 4)
    digit (suc (suc (suc (suc (suc zero))))) h = omega (arith, small 0, small 1, small 2, small 3, small 4, small 5)
    digit (suc (suc (suc (suc (suc (suc zero)))))) h = omega (arith, small 0, small 1, small 2, small 3, small 4, small 5, small 6)
    digit (suc (suc (suc (suc (suc (suc (suc zero))))))) h = omega (arith, small 0, small 1, small 2, small 3, small 4, small 5, small 6, small 7)
    digit (suc (suc (suc (suc (suc (suc (suc (suc k)))))))) h = absurd (omega arith)

-- a set that is written is read as it was
pub set_read : (p : ℕ → Bool) (a : ℕ) → a ≤ last_address → selects (node_set_of p) a ≡ p a
unfolding selects
set_read p a h =
    let i = a / 8 in
    let k = a % 8 in
    ap (λ (b : ℕ). bit_of b k) (bytes_of_at node_set_size (λ j. byte_of (λ n. p (8 * j + n))) i (omega arith))
    ∙ bit_of_byte (λ n. p (8 * i + n)) k (omega arith)
    ∙ ap p (let e : 8 * (a / 8) + a % 8 ≡ a = omega arith in e)

-- a set that is read is written as it was
pub set_written : (s : List ℕ) → length s ≡ node_set_size → Bytes s → node_set_of (selects s) ≡ s
set_written s e by =
    let f : ℕ → ℕ = λ i. byte_of (λ k. selects s (8 * i + k)) in
    let n = bytes_of_length node_set_size f in
    ext_get_or 0 (tabulate node_set_size f) s (n ∙ sym e) (λ i h. bytes_of_at node_set_size f i (omega (arith, n)) ∙ byte_at s i (by i))

-- ---- one address added or removed

-- whether adding 2 ^ k sets bit k if it is clear
adds_bit : ℕ → ℕ → Bool
adds_bit b k = bit_of b k || eqb (b + 2 ^ k) (byte_of (λ j. eqb j k || bit_of b j))

-- it does; proved by testing each byte
bit_added : (b k : ℕ) → b < 256 → k < 8 → bit_of b k ≡ false → b + 2 ^ k ≡ byte_of (λ j. eqb j k || bit_of b j)
unfolding adds_bit byte_of all_below
bit_added b k h l e =
    eqb-true (b + 2 ^ k) _ (or_right (bit_of b k) _ e (all_below_elim 8 (adds_bit b) (all_below_elim 256 (λ x. all_below 8 (adds_bit x)) refl b h) k l))

-- whether subtracting 2 ^ k clears bit k if it is set
removes_bit : ℕ → ℕ → Bool
removes_bit b k = not (bit_of b k) || eqb (b - 2 ^ k) (byte_of (λ j. not (eqb j k) && bit_of b j))

-- it does; proved by testing each byte
bit_removed : (b k : ℕ) → b < 256 → k < 8 → bit_of b k ≡ true → b - 2 ^ k ≡ byte_of (λ j. not (eqb j k) && bit_of b j)
unfolding removes_bit byte_of all_below
bit_removed b k h l e =
    eqb-true (b - 2 ^ k) _ (or_right (not (bit_of b k)) _ (ap not e) (all_below_elim 8 (removes_bit b) (all_below_elim 256 (λ x. all_below 8 (removes_bit x)) refl b h) k l))

-- a set with a new byte for address a, when bit k of that byte is f of whether it is the bit of a, and of the old bit
selects_set : (f : Bool → Bool → Bool) → ((x : Bool) → f false x ≡ x)
    → (s : List ℕ) (a v : ℕ) → a / 8 < length s
    → ((k : ℕ) → k < 8 → bit_of v k ≡ f (eqb k (a % 8)) (bit_of (get_or s (a / 8) 0) k))
    → (c : ℕ) → selects (set s (a / 8) v) c ≡ f (eqb c a) (selects s c)
unfolding selects
selects_set f keeps s a v h bits c =
    by_test (eqb (c / 8) (a / 8))
    (λ t. let e : c / 8 ≡ a / 8 = eqb-true (c / 8) (a / 8) t in
    ap (λ (x : ℕ). bit_of x (c % 8)) (ap (λ (i : ℕ). get_or (set s (a / 8) v) i 0) e ∙ get_or-set_same s (a / 8) v 0 h)
    ∙ bits (c % 8) (omega arith)
    ∙ ap₂ (λ (t : Bool) (i : ℕ). f t (bit_of (get_or s i 0) (c % 8))) (same e) (sym e))
    (λ t. let n = eqb-false (c / 8) (a / 8) t in
    ap (λ (x : ℕ). bit_of x (c % 8)) (get_or-set_other s (a / 8) (c / 8) v 0 n)
    ∙ sym (ap (λ (t : Bool). f t (selects s c)) (ne_eqb c a (λ e. n (ap (λ (x : ℕ). x / 8) e))) ∙ keeps (selects s c)))
  where
    same : c / 8 ≡ a / 8 → eqb (c % 8) (a % 8) ≡ eqb c a
    same e =
        by_test (eqb c a) (λ t. eq-eqb (c % 8) (a % 8) (ap (λ (x : ℕ). x % 8) (eqb-true c a t)) ∙ sym t)
        (λ t. ne_eqb (c % 8) (a % 8) (λ r. eqb-false c a t (omega arith)) ∙ sym t)

module _ (s : List ℕ) (a : ℕ) (h : a / 8 < length s) (small : get_or s (a / 8) 0 < 256) where
  -- the value that sets the bit of a is a byte
  pub added_small : selects s a ≡ false → get_or s (a / 8) 0 + 2 ^ (a % 8) < 256
  unfolding selects
  added_small e = rw (bit_added (get_or s (a / 8) 0) (a % 8) small (omega arith) e) (byte_small _)

  -- a set to which a was added names a and the others as before
  pub selects_added : selects s a ≡ false → (c : ℕ) → selects (set s (a / 8) (get_or s (a / 8) 0 + 2 ^ (a % 8))) c ≡ (eqb c a || selects s c)
  unfolding selects
  selects_added e =
      selects_set (λ x y. x || y) (λ x. refl) s a _ h
      (λ k l. ap (λ (x : ℕ). bit_of x k) (bit_added (get_or s (a / 8) 0) (a % 8) small (omega arith) e) ∙ bit_of_byte _ k l)

  -- a set from which a was removed names the others as before, and not a
  pub selects_removed : selects s a ≡ true → (c : ℕ) → selects (set s (a / 8) (get_or s (a / 8) 0 - 2 ^ (a % 8))) c ≡ (not (eqb c a) && selects s c)
  unfolding selects
  selects_removed e =
      selects_set (λ x y. not x && y) (λ x. refl) s a _ h
      (λ k l. ap (λ (x : ℕ). bit_of x k) (bit_removed (get_or s (a / 8) 0) (a % 8) small (omega arith) e) ∙ bit_of_byte _ k l)

-- ---- the number of addresses

-- whether a byte has as many ones as bits that are set
counts_ones : ℕ → Bool
counts_ones b = eqb (ones b) (number_below 8 (bit_of b))

-- every byte has; proved by testing each
pub ones_bits : (b : ℕ) → b < 256 → ones b ≡ number_below 8 (bit_of b)
unfolding counts_ones ones ones_in number_below all_below
ones_bits b h = eqb-true (ones b) _ (all_below_elim 256 counts_ones refl b h)

-- a set names an address exactly if a byte of it is not 0
pub any_exact : (s : List ℕ) (r : Bool) → length s ≡ node_set_size → Bytes s
    → MatchBool r ((k : ℕ) × (k < length s) × HoldsAt (λ x. x ≡ 0 → ⊥) s k) (AllWithin (λ x. x ≡ 0) s 0 (length s)) → r ≡ selects_any s
any_exact s true e b h = sym (byte_any s h.0 (omega (arith, e, h.1)) (b h.0) (h.2 0))
any_exact s false e b h = sym (zeros_none s (λ i l. h i 0 (omega arith) (omega (arith, e))))
