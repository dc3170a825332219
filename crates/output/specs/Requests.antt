-- Document 01, "Scenes", with document 02, change 3: entries are filled into batches, and each batch is a request.
use Rattle.std.specs.Prelude.{List, map, [], ◌∷◌, ◌++◌, Bool, ℕ, ◌+◌, ◌≤◌, leb, length}
use Rattle.dpa.specs.declared.frame.Frame.{Frame}
use Rattle.dpa.specs.Frame.{pdata_max, broadcast_nadr, frame, header_bytes}
use Rattle.dpa.specs.Pnum.{os_pnum}
use Rattle.batch.specs.Batch.{Request, entry_head_size, list_bytes, batch_pcmd}
use Rattle.batch.specs.Selective.{selective_pcmd}
use Rattle.book.specs.declared.step.Step.{Step}
use Rattle.entries.specs.Entry.{joined_entry}
use Rattle.entries.specs.Group.{group}
use Rattle.entries.specs.Join.{entries_of}
use Rattle.entries.specs.EntrySize.{one_step_max}

-- ---- entries filled into lists, for any two limits

-- the entries of these groups of steps, for profile h
abbrev pub joined_entries : ℕ → List (List Step) → List Request
joined_entries h groups = map (joined_entry h) groups

-- the list of these entries
abbrev pub list_of : ℕ → List (List Step) → List ℕ
list_of h groups = list_bytes (joined_entries h groups)

-- size of an entry with `pdata` bytes of PData
abbrev pub entry_size : ℕ → ℕ
entry_size pdata = entry_head_size + pdata

-- size of a list without entries: its closing zero
abbrev pub empty_list_size : ℕ
empty_list_size = 1

-- whether a list stays within `list_max` with one more entry
abbrev pub fits_batch : (list_max h : ℕ) → List (List Step) → List Step → Bool
fits_batch list_max h groups group = leb (length (list_of h (groups ++ (group ∷ [])))) list_max

-- the batches of a scene, each a list of entries, filled greedily from the left
abbrev pub batches_of : (entry_max list_max h : ℕ) → List Step → List (List (List Step))
batches_of entry_max list_max h ss = group (fits_batch list_max h) (entries_of entry_max ss)

-- ---- requests

-- the limits, and the bytes in front of the lists: an entry has room for a step, a list for an entry, and a frame for a list
pub record Limits (entry_max list_max : ℕ) (front : List ℕ) : Type 0 where
  pub entry : one_step_max ≤ entry_max
  pub list : empty_list_size + entry_size entry_max ≤ list_max
  pub frame : length front + list_max ≤ pdata_max

-- a request: the header, the bytes in front of the list, the list
abbrev pub request_with : Frame → List ℕ → List (List Step) → List ℕ
request_with header front groups = header_bytes header ++ (front ++ list_of header.hwpid groups)

-- a request to peripheral OS with this PCMD, for address a and profile h
abbrev pub request_bytes : (pcmd : ℕ) (front : List ℕ) (a h : ℕ) → List (List Step) → List ℕ
request_bytes pcmd front a h groups = request_with (frame a os_pnum pcmd h) front groups

-- the requests of a scene within two limits, with any PCMD and any bytes in front of the lists
abbrev pub requests_of : (entry_max list_max pcmd : ℕ) (front : List ℕ) (a h : ℕ) → List Step → List (List ℕ)
requests_of entry_max list_max pcmd front a h ss = map (request_bytes pcmd front a h) (batches_of entry_max list_max h ss)

-- ---- batches to an address

-- maximum size of an entry's PData
abbrev pub entry_limit : ℕ
entry_limit = 50

-- maximum size of a list, its closing zero included: it is the PData of its request
abbrev pub list_limit : ℕ
list_limit = pdata_max

-- the batch requests of a scene for address a and profile h
abbrev pub scene_requests : ℕ → ℕ → List Step → List (List ℕ)
scene_requests a h ss = requests_of entry_limit list_limit batch_pcmd [] a h ss

-- ---- selective batches to the nodes of a set

-- maximum size of an entry's PData
abbrev pub selected_entry_limit : ℕ
selected_entry_limit = 20

-- maximum size of a list, its closing zero included: with the node set it is the PData of its request
abbrev pub selected_list_limit : ℕ
selected_list_limit = 26

-- the selective batch requests of a scene for profile h: a broadcast with the node set in front of each list
abbrev pub selected_requests : List ℕ → ℕ → List Step → List (List ℕ)
selected_requests nodes h ss = requests_of selected_entry_limit selected_list_limit selective_pcmd nodes broadcast_nadr h ss
