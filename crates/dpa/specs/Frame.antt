-- Document 01, "Frames": sizes, the header of a frame, and the header of a response.
use Rattle.std.specs.Prelude.{ℕ, ◌+◌, ◌%◌, List, [], ◌∷◌, ◌++◌, Bool, ◌&&◌, get_or, drop, leb}
use Rattle.dpa.specs.Number.{low, high, word_at}
use Rattle.dpa.specs.declared.frame.Frame.{Frame}
use Rattle.dpa.specs.declared.settings.Settings.{Settings}

-- sizes in bytes: the header, the longest PData, the longest request
abbrev pub header_size : ℕ
header_size = 6

abbrev pub pdata_max : ℕ
pdata_max = 56

abbrev pub longest_frame : ℕ
longest_frame = header_size + pdata_max

-- sizes in bytes: the header of a response, the longest response
abbrev pub response_header_size : ℕ
response_header_size = 8

abbrev pub longest_response : ℕ
longest_response = response_header_size + pdata_max

-- the NADR that addresses every node, and the HWPID that every node accepts
abbrev pub broadcast_nadr : ℕ
broadcast_nadr = 0x00FF

abbrev pub any_hwpid : ℕ
any_hwpid = 0xFFFF

abbrev pub frame : (nadr pnum pcmd hwpid : ℕ) → Frame
frame nadr pnum pcmd hwpid = record { nadr = nadr; pnum = pnum; pcmd = pcmd; hwpid = hwpid }

-- the six bytes of a header
abbrev pub header_bytes : Frame → List ℕ
header_bytes f = low f.nadr ∷ high f.nadr ∷ f.pnum ∷ f.pcmd ∷ low f.hwpid ∷ high f.hwpid ∷ []

-- the header at the start of a frame
abbrev pub header_of : List ℕ → Frame
header_of s = frame (word_at s 0) (get_or s 2 0) (get_or s 3 0) (word_at s 4)

-- the bytes after the header
abbrev pub pdata_of : List ℕ → List ℕ
pdata_of s = drop header_size s

-- the length of a valid request: 6 to 62 bytes
unfoldable pub frame_fits : ℕ → Bool
frame_fits n = leb header_size n && leb n longest_frame

-- bit 7, which is set in the PCMD of a response
abbrev pub response_bit : ℕ
response_bit = 0x80

-- the header of a response: the node's address, PNUM, PCMD with bit 7 set, the node's HWPID, ErrN, DpaValue
abbrev pub response_header : Settings → (pnum pcmd error : ℕ) → List ℕ
response_header s pnum pcmd error =
    header_bytes (frame s.address pnum (pcmd % response_bit + response_bit) s.hwpid) ++ (error ∷ s.dpa_value ∷ [])
