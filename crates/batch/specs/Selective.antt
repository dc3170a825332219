-- Document 02, change 3: the PData of a selective batch, a node set and then a list as in batch.
use Rattle.std.specs.Prelude.{ℕ, ◌+◌, List, cond, length, take, drop, ltb}
use Rattle.dpa.specs.NodeSet.{node_set_size, selects}
use Rattle.batch.specs.Batch.{ListCheck, reading, shift_fault}

-- the PCMD of a selective batch
abbrev pub selective_pcmd : ℕ
selective_pcmd = 0x0B

-- size of the shortest PData: a node set, and one byte of a list
abbrev pub selective_pdata_min : ℕ
selective_pdata_min = node_set_size + 1

-- the check of the list that starts at place n of PData, with the place of its fault counted in PData
abbrev pub check_from : ℕ → List ℕ → ListCheck
check_from n pdata = shift_fault n (reading (drop n pdata)).check

-- what PData is to a node
pub data Selection : Type 0 where
  TooShort : Selection
  NotSelected : Selection
  Selected : ListCheck → Selection

-- What PData is to the node with address a, in this order: too short; not for this node, and nothing further is tested; for this
-- node, with the check of the list.
unfoldable pub selection_of : List ℕ → ℕ → Selection
selection_of pdata a =
    cond (ltb (length pdata) selective_pdata_min) TooShort
    (cond (selects (take node_set_size pdata) a) (Selected (check_from node_set_size pdata))
    NotSelected)
