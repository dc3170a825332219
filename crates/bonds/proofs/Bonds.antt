-- Laws of the bonds: their rule, adding and removing an address, and the number of bonds.
use mathlib.Core.Path.{◌≡◌, refl, sym, ap, ap₂, ◌∙◌}
use mathlib.Core.List.{List, [], ◌∷◌, ◌++◌}
use mathlib.Core.Bool.{Bool, true, false, cond, not, ◌&&◌, ◌||◌, or-true, true≢false}
use Prim.Native.Nat.{ℕ, zero, suc, ◌+◌, ◌-◌, ◌*◌, ◌/◌, ◌%◌, ◌^◌, ◌≤◌, ◌<◌}
use native.Mathlib.Numerals.{add-one}
use native.Mathlib.Omega.{arith}
use lib.ListN.{length, get_or, take, set, length-set, get_or-eq_default}
use lib.Seq.{take-suc, take_all, get_or-set_same, set-set, set-get_or}
use lib.Count.{ones, ones_in, ones-le}
use lib.Dec.{eqb, ltb, leb}
use borrow.Author.Tests.{ltb-true, ltb-false, leb-true, leb-false, le-leb, lt-leb, eqb-true, eqb-false, eq-eqb, lt-ltb, not-true}
use Rattle.dpa.specs.Lists.{Bytes, bit_of, all_below, number_below}
use Rattle.dpa.specs.NodeSet.{selects}
use Rattle.dpa.specs.Settings.{node_address, last_address}
use Rattle.dpa.proofs.Bool.{and_left, and_right, both, and_right_false, or_left, or_right, never_true, by_test, all_below_intro, all_below_elim, number_same, number_none, number_shift, number_add, number_max, number_added}
use Rattle.dpa.proofs.Ranges.{node_range}
use Rattle.dpa.proofs.Bytes.{bytes_set, bytes_tested}
use Rattle.dpa.proofs.NodeSets.{byte_none, selects_first, selects_next, selects_outside, selects_inside, named_min, byte_clear, added_small, selects_added, selects_removed, ones_bits}
use Rattle.bonds.specs.Bonds.{can_change, changed_bonds, bonds_size, no_bonds, bonded, with_bond, without_bond, bond_count, can_add, bonded_node, bonds_ok, BondsRule}

-- ---- the rule as a test and as facts

module _ (b : List ℕ) (e : bonds_ok b ≡ true) where
  first_two : (eqb (length b) bonds_size && all_below bonds_size (λ i. ltb (get_or b i 0) 256)) ≡ true
  unfolding bonds_ok
  first_two = and_left _ (all_below 256 (λ a. node_address a || not (bonded b a))) e

  size : length b ≡ bonds_size
  size = eqb-true _ _ (and_left _ (all_below bonds_size (λ i. ltb (get_or b i 0) 256)) first_two)

  in_range : (a : ℕ) → a < 256 → bonded b a ≡ true → node_address a ≡ true
  unfolding bonds_ok
  in_range a h t =
      or_left (node_address a) (not (bonded b a)) (ap not t)
      (all_below_elim 256 (λ x. node_address x || not (bonded b x))
      (and_right (eqb (length b) bonds_size && all_below bonds_size (λ i. ltb (get_or b i 0) 256)) _ e) a h)

  -- the rule's test gives its facts
  pub bonds_facts : BondsRule b
  bonds_facts =
      record {
        size = size;
        bytes = bytes_tested bonds_size b size (and_right (eqb (length b) bonds_size) _ first_two);
        only_nodes = λ a t.
            by_test (ltb a 256) (λ l. in_range a (ltb-true a 256 l) t)
            (λ l. absurd (true≢false (sym t ∙ selects_outside b a (omega (arith, size, ltb-false a 256 l)))));
      }

-- the rule's facts give its test
pub bonds_test : (b : List ℕ) → BondsRule b → bonds_ok b ≡ true
unfolding bonds_ok
bonds_test b r =
    both (both (eq-eqb _ _ r.size) (all_below_intro bonds_size (λ i. ltb (get_or b i 0) 256) (λ i h. lt-ltb _ _ (r.bytes i))))
    (all_below_intro 256 (λ a. node_address a || not (bonded b a)) each)
  where
    each : (a : ℕ) → a < 256 → (node_address a || not (bonded b a)) ≡ true
    each a h =
        by_test (bonded b a) (λ t. ap (λ (x : Bool). x || not (bonded b a)) (r.only_nodes a t))
        (λ f. ap (λ (x : Bool). node_address a || not x) f ∙ or-true (node_address a))

-- ---- the rule by bytes

-- if bytes 30 and 31 are 0, all bytes from 30 on read as 0
last_bytes : (b : List ℕ) → length b ≡ bonds_size → get_or b 30 0 ≡ 0 → get_or b 31 0 ≡ 0 → (i : ℕ) → 30 ≤ i → get_or b i 0 ≡ 0
last_bytes b e y z i h =
    by_test (eqb i 30) (λ t. ap (λ (j : ℕ). get_or b j 0) (eqb-true i 30 t) ∙ y)
    (λ n. by_test (eqb i 31) (λ t. ap (λ (j : ℕ). get_or b j 0) (eqb-true i 31 t) ∙ z)
    (λ m. get_or-eq_default b 0 (omega (arith, eqb-false i 30 n, eqb-false i 31 m))))

-- bytes are sound if address 0 is not bonded and the last two bytes are 0
pub rule_by_bytes : (b : List ℕ) → Bytes b → length b ≡ bonds_size → selects b 0 ≡ false → get_or b 30 0 ≡ 0 → get_or b 31 0 ≡ 0 → bonds_ok b ≡ true
rule_by_bytes b bytes e first y z =
    bonds_test b (record { size = e; bytes = bytes; only_nodes = λ a t. both (le-leb 1 a (positive a t)) (le-leb a last_address (low a t)) })
  where
    positive : (a : ℕ) → bonded b a ≡ true → 1 ≤ a
    positive zero t = absurd (true≢false (sym t ∙ first))
    positive (suc a) t = omega arith

    low : (a : ℕ) → bonded b a ≡ true → a ≤ last_address
    low a t =
        by_test (leb a last_address) (λ l. leb-true a last_address l)
        (λ l. absurd (true≢false (sym t ∙ byte_none b a (last_bytes b e y z (a / 8) (omega (arith, leb-false a last_address l))))))

-- an address that no node can have is not bonded in sound bonds
pub others_clear : (b : List ℕ) → bonds_ok b ≡ true → (a : ℕ) → node_address a ≡ false → bonded b a ≡ false
others_clear b e a n = never_true (bonded b a) (λ t. true≢false (sym ((bonds_facts b e).only_nodes a t) ∙ n))

-- bonds in which address 0 is bonded are not sound
pub zero_fails : (b : List ℕ) → selects b 0 ≡ true → bonds_ok b ≡ false
zero_fails b t = never_true (bonds_ok b) (λ e. true≢false (sym t ∙ others_clear b e 0 refl))

-- no address from 240 on is bonded in sound bonds
high_clear : (b : List ℕ) → bonds_ok b ≡ true → (a : ℕ) → last_address < a → bonded b a ≡ false
high_clear b ok a h = others_clear b ok a (and_right_false (leb 1 a) (leb a last_address) (lt-leb a last_address h))

-- bonds of which a byte of addresses from 240 on is not 0 are not sound
pub byte_fails : (b : List ℕ) (i : ℕ) → 240 ≤ 8 * i → ¬ (get_or b i 0 ≡ 0) → bonds_ok b ≡ false
byte_fails b i h n = never_true (bonds_ok b) (λ e. n (byte_clear b i ((bonds_facts b e).bytes i) (λ k l. high_clear b e (8 * i + k) (omega arith))))

-- the test of the last byte decides, after the others
pub last_tested : (b : List ℕ) → Bytes b → length b ≡ bonds_size → selects b 0 ≡ false → get_or b 30 0 ≡ 0 → eqb (get_or b 31 0) 0 ≡ bonds_ok b
last_tested b bytes e first y =
    by_test (eqb (get_or b 31 0) 0) (λ t. t ∙ sym (rule_by_bytes b bytes e first y (eqb-true _ 0 t)))
    (λ f. f ∙ sym (byte_fails b 31 (omega arith) (eqb-false _ 0 f)))

-- ---- adding and removing

-- an address that can be added: a node can have it, and it is not bonded
pub add_facts : (b : List ℕ) (a : ℕ) → can_add b a ≡ true → (node_address a ≡ true) × (bonded b a ≡ false)
unfolding can_add
add_facts b a e = (and_left _ (not (bonded b a)) e, not-true (bonded b a) (and_right (node_address a) _ e))

-- an address that can be removed: a node can have it, and it is bonded
pub remove_facts : (b : List ℕ) (a : ℕ) → bonded_node b a ≡ true → (node_address a ≡ true) × (bonded b a ≡ true)
unfolding bonded_node
remove_facts b a e = (and_left _ (bonded b a) e, and_right (node_address a) _ e)

module _ (b : List ℕ) (a : ℕ) (bytes : Bytes b) where
  -- an added address is bonded, the others are as before
  pub add_others : a / 8 < length b → bonded b a ≡ false → (c : ℕ) → bonded (with_bond b a) c ≡ (eqb c a || bonded b c)
  add_others h e = selects_added b a h (bytes (a / 8)) e

  -- a removed address is not bonded, the others are as before
  pub remove_others : bonded b a ≡ true → (c : ℕ) → bonded (without_bond b a) c ≡ (not (eqb c a) && bonded b c)
  remove_others e = selects_removed b a (selects_inside b a e) (bytes (a / 8)) e

module _ (b : List ℕ) (a : ℕ) (ok : bonds_ok b ≡ true) where
  -- the byte of an address that a node can have is one of the bonds
  pub node_inside : node_address a ≡ true → a / 8 < length b
  node_inside n = omega (arith, (bonds_facts b ok).size, (node_range a n).1)

  -- bonds stay sound when an address is added
  pub add_sound : can_add b a ≡ true → bonds_ok (with_bond b a) ≡ true
  add_sound e =
      let f = add_facts b a e in
      let r = bonds_facts b ok in
      let h = node_inside f.0 in
      bonds_test (with_bond b a)
      (record {
        size = length-set b (a / 8) _ ∙ r.size;
        bytes = bytes_set b (a / 8) _ (added_small b a h (r.bytes (a / 8)) f.1) r.bytes;
        only_nodes = λ c t.
            by_test (eqb c a) (λ q. ap node_address (eqb-true c a q) ∙ f.0)
            (λ q. r.only_nodes c (or_right (eqb c a) (bonded b c) q (sym (add_others b a r.bytes h f.1 c) ∙ t)));
      })

  -- bonds stay sound when an address is removed
  pub remove_sound : bonded_node b a ≡ true → bonds_ok (without_bond b a) ≡ true
  remove_sound e =
      let f = remove_facts b a e in
      let r = bonds_facts b ok in
      bonds_test (without_bond b a)
      (record {
        size = length-set b (a / 8) _ ∙ r.size;
        bytes = bytes_set b (a / 8) _ (omega (arith, r.bytes (a / 8))) r.bytes;
        only_nodes = λ c t. r.only_nodes c (and_right (not (eqb c a)) (bonded b c) (sym (remove_others b a r.bytes f.1 c) ∙ t));
      })

-- an added address can be removed
pub added_can_remove : (b : List ℕ) (a : ℕ) → bonds_ok b ≡ true → can_add b a ≡ true → bonded_node (with_bond b a) a ≡ true
unfolding bonded_node
added_can_remove b a ok e =
    let f = add_facts b a e in
    both f.0 (add_others b a (bonds_facts b ok).bytes (node_inside b a ok f.0) f.1 a ∙ ap (λ (t : Bool). t || bonded b a) (eq-eqb a a refl))

-- a removed address can be added
pub removed_can_add : (b : List ℕ) (a : ℕ) → bonds_ok b ≡ true → bonded_node b a ≡ true → can_add (without_bond b a) a ≡ true
unfolding can_add
removed_can_add b a ok e =
    let f = remove_facts b a e in
    both f.0 (ap not (remove_others b a (bonds_facts b ok).bytes f.1 a ∙ ap (λ (t : Bool). not t && bonded b a) (eq-eqb a a refl)))

-- bonds without any address are sound
pub none_sound : bonds_ok no_bonds ≡ true
unfolding bonds_ok all_below selects
none_sound = refl

-- ---- one undoes the other

-- a value stored at a place and then the old one gives the old list
set_back : (b : List ℕ) (i v w : ℕ) → w ≡ get_or b i 0 → set (set b i v) i w ≡ b
set_back b i v w e = set-set b i v w ∙ ap (set b i) e ∙ set-get_or b i 0

-- bonds are as before when an address is added and removed again
pub add_remove : (b : List ℕ) (a : ℕ) → a / 8 < length b → without_bond (with_bond b a) a ≡ b
add_remove b a h =
    let new = get_or b (a / 8) 0 + 2 ^ (a % 8) in
    set_back b (a / 8) new _ (ap (λ (x : ℕ). x - 2 ^ (a % 8)) (get_or-set_same b (a / 8) new 0 h) ∙ omega arith)

-- bonds are as before when a bonded address is removed and added again
pub remove_add : (b : List ℕ) (a : ℕ) → bonded b a ≡ true → with_bond (without_bond b a) a ≡ b
remove_add b a e =
    let new = get_or b (a / 8) 0 - 2 ^ (a % 8) in
    let m : 2 ^ (a % 8) ≤ get_or b (a / 8) 0 = named_min b a e in
    set_back b (a / 8) new _ (ap (λ (x : ℕ). x + 2 ^ (a % 8)) (get_or-set_same b (a / 8) new 0 (selects_inside b a e)) ∙ omega arith)

-- bonds stay sound when an address is added or removed
pub changed_sound : (add : Bool) (b : List ℕ) (a : ℕ) → bonds_ok b ≡ true → can_change add b a ≡ true → bonds_ok (changed_bonds add b a) ≡ true
changed_sound true b a = add_sound b a
changed_sound false b a = remove_sound b a

-- the opposite change is then possible
pub changed_back : (add : Bool) (b : List ℕ) (a : ℕ) → bonds_ok b ≡ true → can_change add b a ≡ true → can_change (not add) (changed_bonds add b a) a ≡ true
changed_back true b a = added_can_remove b a
changed_back false b a = removed_can_add b a

-- and gives the bonds back
pub changed_undone : (add : Bool) (b : List ℕ) (a : ℕ) → bonds_ok b ≡ true → can_change add b a ≡ true → changed_bonds (not add) (changed_bonds add b a) a ≡ b
changed_undone true b a ok e = add_remove b a (node_inside b a ok (add_facts b a e).0)
changed_undone false b a ok e = remove_add b a (remove_facts b a e).1

-- the byte of a change is one of the bonds
pub changed_inside : (add : Bool) (b : List ℕ) (a : ℕ) → can_change add b a ≡ true → a / 8 < bonds_size
changed_inside true b a e = omega (arith, node_range a (add_facts b a e).0)
changed_inside false b a e = omega (arith, node_range a (remove_facts b a e).0)

-- ---- the number of bonds

-- the bytes of two lists in a row are counted apart
count_append : (xs ys : List ℕ) → bond_count (xs ++ ys) ≡ bond_count xs + bond_count ys
unfolding bond_count
count_append [] ys = omega arith
count_append (x ∷ xs) ys = omega (arith, count_append xs ys)

-- no byte is counted at first
pub count_start : (b : List ℕ) → bond_count (take 0 b) ≡ 0
unfolding bond_count
count_start b = refl

-- the count of one more byte
pub count_next : (b : List ℕ) (i : ℕ) → i < length b → bond_count (take (i + 1) b) ≡ bond_count (take i b) + ones (get_or b i 0)
unfolding bond_count
count_next b i h =
    ap (λ (n : ℕ). bond_count (take n b)) (add-one i) ∙ ap bond_count (take-suc b i 0 h)
    ∙ count_append (take i b) (get_or b i 0 ∷ []) ∙ omega arith

-- no more than eight bonds in each byte
pub count_front : (b : List ℕ) → Bytes b → (i : ℕ) → bond_count (take i b) ≤ 8 * i
unfolding bond_count
count_front b bytes zero = omega arith
count_front [] bytes (suc i) = omega arith
count_front (x ∷ xs) bytes (suc i) = omega (arith, ones-le 8 x (bytes 0), count_front xs (λ j. bytes (suc j)) i)

-- the first thirty bytes are counted if the last two are 0
pub count_30 : (b : List ℕ) → length b ≡ bonds_size → get_or b 30 0 ≡ 0 → get_or b 31 0 ≡ 0 → bond_count b ≡ bond_count (take 30 b)
unfolding ones ones_in
count_30 b e y z =
    sym (ap bond_count (take_all bonds_size b (omega arith)))
    ∙ count_next b 31 (omega arith) ∙ ap₂ (λ (n x : ℕ). n + ones x) (count_next b 30 (omega arith) ∙ ap (λ (x : ℕ). bond_count (take 30 b) + ones x) y) z
    ∙ omega arith

-- the bytes of sound bonds from 30 on are 0
last_zero : (b : List ℕ) → bonds_ok b ≡ true → (i : ℕ) → 240 ≤ 8 * i → get_or b i 0 ≡ 0
last_zero b e i h =
    by_test (eqb (get_or b i 0) 0) (λ t. eqb-true _ 0 t) (λ f. absurd (true≢false (sym e ∙ byte_fails b i h (eqb-false _ 0 f))))

-- so the first thirty of them are enough to count
pub count_sound : (b : List ℕ) → bonds_ok b ≡ true → (i : ℕ) → 30 ≤ i → i ≤ 30 → bond_count b ≡ bond_count (take i b)
count_sound b e i h l =
    let n : 30 ≡ i = omega arith in
    count_30 b (bonds_facts b e).size (last_zero b e 30 (omega arith)) (last_zero b e 31 (omega arith)) ∙ ap (λ (k : ℕ). bond_count (take k b)) n

-- bytes have as many ones as they name addresses
count_bits : (b : List ℕ) → Bytes b → bond_count b ≡ number_below (8 * length b) (bonded b)
unfolding bond_count number_below
count_bits [] bytes = refl
count_bits (x ∷ xs) bytes =
    let f = bonded (x ∷ xs) in
    ap₂ (λ (m n : ℕ). m + n)
    (ones_bits x (bytes 0) ∙ number_same 8 (bit_of x) f (λ k l. sym (selects_first x xs k l)))
    (count_bits xs (λ i. bytes (suc i)) ∙ number_same (8 * length xs) (bonded xs) (λ k. f (8 + k)) (λ k l. sym (selects_next x xs k)))
    ∙ sym (number_add 8 (8 * length xs) f) ∙ ap (λ (n : ℕ). number_below n f) (let e : 8 + 8 * length xs ≡ 8 * suc (length xs) = omega arith in e)

-- the number of bonds is that of the bonded addresses
pub count_bonded : (b : List ℕ) → bonds_ok b ≡ true → bond_count b ≡ number_below 256 (bonded b)
count_bonded b ok = let r = bonds_facts b ok in count_bits b r.bytes ∙ ap (λ (n : ℕ). number_below (8 * n) (bonded b)) r.size

-- all of these are below 240
pub count_nodes : (b : List ℕ) → bonds_ok b ≡ true → bond_count b ≡ number_below 240 (bonded b)
count_nodes b ok =
    let none = number_none 16 (λ k. bonded b (240 + k)) (λ k l. high_clear b ok (240 + k) (omega arith)) in
    count_bonded b ok ∙ number_add 240 16 (bonded b) ∙ omega arith

-- no more bonds than addresses that a node can have
pub count_max : (b : List ℕ) → bonds_ok b ≡ true → bond_count b ≤ last_address
count_max b ok =
    omega (
      arith,
      count_nodes b ok ∙ number_shift 239 (bonded b) ∙ ap (λ (t : Bool). cond t 1 0 + number_below 239 (λ k. bonded b (suc k))) (others_clear b ok 0 refl),
      number_max 239 (λ k. bonded b (suc k)),
    )

-- adding an address adds one bond
pub count_add : (b : List ℕ) (a : ℕ) → bonds_ok b ≡ true → can_add b a ≡ true → bond_count (with_bond b a) ≡ bond_count b + 1
count_add b a ok e =
    let f = add_facts b a e in
    count_bonded (with_bond b a) (add_sound b a ok e)
    ∙ number_same 256 (bonded (with_bond b a)) (λ c. eqb c a || bonded b c) (λ c l. add_others b a (bonds_facts b ok).bytes (node_inside b a ok f.0) f.1 c)
    ∙ number_added 256 (bonded b) a (omega (arith, (node_range a f.0).1)) f.1 ∙ ap (λ (n : ℕ). n + 1) (sym (count_bonded b ok))

-- removing an address removes one bond
pub count_remove : (b : List ℕ) (a : ℕ) → bonds_ok b ≡ true → bonded_node b a ≡ true → bond_count (without_bond b a) + 1 ≡ bond_count b
count_remove b a ok e =
    sym (count_add (without_bond b a) a (remove_sound b a ok e) (removed_can_add b a ok e)) ∙ ap bond_count (remove_add b a (remove_facts b a e).1)
