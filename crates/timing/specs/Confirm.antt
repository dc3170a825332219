-- Document 01, "Confirmation and waiting": the confirmation's bytes and the call that writes them.
use Rattle.std.specs.Prelude.{ℕ, cond, List, [], ◌∷◌, ◌++◌, length, take, ltb, eqb}
use Rattle.dpa.specs.Answer.{LengthResult, result_in_buffer}
use Rattle.dpa.specs.Frame.{header_size, longest_response, broadcast_nadr, header_of, pdata_of, frame_fits}
use Rattle.timing.specs.declared.slot.Network.{Network}
use Rattle.timing.specs.Slot.{slot_of}

-- the status that marks a confirmation
abbrev pub status_confirmation : ℕ
status_confirmation = 0xFF

-- bytes of a confirmation
abbrev pub confirmation_length : ℕ
confirmation_length = 11

-- response hops; 0 for a broadcast
unfoldable pub response_hops_sent : List ℕ → ℕ → ℕ
response_hops_sent frame hops_of_response = cond (eqb (header_of frame).nadr broadcast_nadr) 0 hops_of_response

-- the request's first six bytes, FF hex, DpaValue, hops, timeslot, response hops
abbrev pub confirm_bytes : (frame : List ℕ) (dpa_value hops slot hops_of_response : ℕ) → List ℕ
confirm_bytes frame dpa_value hops slot hops_of_response =
    take header_size frame ++ (status_confirmation ∷ dpa_value ∷ hops ∷ slot ∷ response_hops_sent frame hops_of_response ∷ [])

-- the confirmation of a frame; the slot is that of its PData
abbrev pub confirmation : (frame : List ℕ) (dpa_value hops hops_of_response : ℕ) (net : Network) → List ℕ
confirmation frame dpa_value hops hops_of_response net =
    confirm_bytes frame dpa_value hops (slot_of (length (pdata_of frame)) net) hops_of_response

-- `confirm`: not a frame of 6 to 62 bytes: 2; a buffer under 64 bytes: 3; NADR is not tested
unfoldable pub confirm_of : (frame : List ℕ) (dpa_value hops hops_of_response : ℕ) (net : Network) (o : List ℕ) → LengthResult
confirm_of frame dpa_value hops hops_of_response net o =
    cond (frame_fits (length frame))
    (cond (ltb (length o) longest_response)
    (result_in_buffer 3 [] o)
    (result_in_buffer 0 (confirmation frame dpa_value hops hops_of_response net) o))
    (result_in_buffer 2 [] o)
