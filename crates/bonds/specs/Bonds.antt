-- Document 02, change 6: bonded addresses, in the bitmap of section 3.2.4 of document 000.
use Rattle.std.specs.Prelude.{ℕ, ◌+◌, ◌-◌, ◌/◌, ◌%◌, ◌^◌, ◌≡◌, List, [], ◌∷◌, Bool, true, false, cond, not, ◌&&◌, ◌||◌, length, get_or, set, replicate, eqb, ltb}
use Rattle.std.specs.Int.Count.{ones}
use Rattle.dpa.specs.Frame.{broadcast_nadr}
use Rattle.dpa.specs.Lists.{Bytes, all_below}
use Rattle.dpa.specs.NodeSet.{selects}
use Rattle.dpa.specs.Settings.{node_address}
use Rattle.bonds.specs.declared.addresses.BondChange.{BondChange}
use Rattle.bonds.specs.declared.addresses.BondChange.TheVariants.{Add, Remove}

-- size in bytes: a bit for each address from 0 to 255
abbrev pub bonds_size : ℕ
bonds_size = 32

abbrev pub no_bonds : List ℕ
no_bonds = replicate bonds_size 0

-- address a is bonded: bit a mod 8 of byte a / 8, as in a set of nodes
abbrev pub bonded : List ℕ → ℕ → Bool
bonded bonds a = selects bonds a

-- the bonds with the bit of a set; it was clear
abbrev pub with_bond : List ℕ → ℕ → List ℕ
with_bond bonds a = set bonds (a / 8) (get_or bonds (a / 8) 0 + 2 ^ (a % 8))

-- the bonds with the bit of a clear; it was set
abbrev pub without_bond : List ℕ → ℕ → List ℕ
without_bond bonds a = set bonds (a / 8) (get_or bonds (a / 8) 0 - 2 ^ (a % 8))

-- the number of bits that are set (proofs/Bonds, `count_bonded`: the number of bonded addresses)
unfoldable pub bond_count : List ℕ → ℕ
bond_count [] = 0
bond_count (b ∷ bs) = ones b + bond_count bs

-- a node with this address is bonded, so that the bond can be removed
unfoldable pub bonded_node : List ℕ → ℕ → Bool
bonded_node bonds a = node_address a && bonded bonds a

-- the address can be added
unfoldable pub can_add : List ℕ → ℕ → Bool
can_add bonds a = node_address a && not (bonded bonds a)

-- what the code's change means
abbrev pub adds : BondChange → Bool
adds Add = true
adds Remove = false

-- an address that can be added (true) or removed (false), and the bonds after it
abbrev pub can_change : Bool → List ℕ → ℕ → Bool
can_change add bonds a = cond add (can_add bonds a) (bonded_node bonds a)

abbrev pub changed_bonds : Bool → List ℕ → ℕ → List ℕ
changed_bonds add bonds a = cond add (with_bond bonds a) (without_bond bonds a)

-- an address that a request can be sent to: all nodes, or a bonded one
unfoldable pub can_send : List ℕ → ℕ → Bool
can_send bonds a = eqb a broadcast_nadr || bonded_node bonds a

-- thirty-two bytes, as in every record of the code, and only addresses that a node can have are bonded
unfoldable pub bonds_ok : List ℕ → Bool
bonds_ok bonds =
    eqb (length bonds) bonds_size
    && all_below bonds_size (λ i. ltb (get_or bonds i 0) 256)
    && all_below 256 (λ a. node_address a || not (bonded bonds a))

-- the same as facts (proofs/Bonds: `bonds_facts`, `bonds_test`)
pub record BondsRule (bonds : List ℕ) : Type 0 where
  pub size : length bonds ≡ bonds_size
  pub bytes : Bytes bonds
  pub only_nodes : (a : ℕ) → bonded bonds a ≡ true → node_address a ≡ true
