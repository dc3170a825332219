-- Document 02, change 3: a set of nodes in thirty bytes.
use Rattle.std.specs.Prelude.{ℕ, zero, suc, ◌+◌, ◌*◌, ◌≤◌, ◌≡◌, List, [], ◌∷◌, Bool, true, false, cond, not, ◌&&◌}
use Rattle.dpa.specs.Lists.{bit_at, all_below}
use Rattle.dpa.specs.Settings.{last_address}

-- size of a set in bytes: a bit for each address from 0 to 239
abbrev pub node_set_size : ℕ
node_set_size = 30

-- whether a set names address a: by bit a
unfoldable pub selects : List ℕ → ℕ → Bool
selects set a = bit_at set a

-- whether it names any address
unfoldable pub selects_any : List ℕ → Bool
selects_any set = not (all_below (suc last_address) (λ a. not (selects set a)))

-- a set that a scene can be compiled for: it names a node, and not address 0
unfoldable pub node_set_ok : List ℕ → Bool
node_set_ok set = not (selects set 0) && selects_any set

-- the same as facts (proofs/NodeSets, `set_ok_exact`)
pub record Selectable (set : List ℕ) : Type 0 where
  pub zero_clear : selects set 0 ≡ false
  pub address : ℕ
  pub address_min : 1 ≤ address
  pub address_max : address ≤ last_address
  pub named : selects set address ≡ true

-- ---- the same bytes, written (proofs/NodeSets, `set_read` and `set_written`: reading and writing are inverse)

-- the byte whose bit k is set if b k is true
unfoldable pub byte_of : (ℕ → Bool) → ℕ
byte_of b = bit 0 + 2 * bit 1 + 4 * bit 2 + 8 * bit 3 + 16 * bit 4 + 32 * bit 5 + 64 * bit 6 + 128 * bit 7
  where
    bit : ℕ → ℕ
    bit k = cond (b k) 1 0

-- the bytes f 0 to f (n - 1)
unfoldable pub tabulate : ℕ → (ℕ → ℕ) → List ℕ
tabulate zero f = []
tabulate (suc n) f = f 0 ∷ tabulate n (λ i. f (suc i))

-- the set of all addresses with property p
abbrev pub node_set_of : (ℕ → Bool) → List ℕ
node_set_of p = tabulate node_set_size (λ i. byte_of (λ k. p (8 * i + k)))
