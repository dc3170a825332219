-- Requests and calls that tell wrong readings of the papers apart; proved by computation in proofs/Examples. Node 7 has three lamps, HWPID
-- 0x2471 and DpaValue 0x33. Its memories are all zeros, except bytes 0 and 1 of its EEPROM.
use Rattle.std.specs.Prelude.{ℕ, ◌≡◌, true, false, List, [], ◌∷◌, replicate, get_or, take}
use Rattle.dpa.specs.declared.settings.Settings.{Settings}
use Rattle.batch.specs.Batch.{request_of}
use Rattle.node.specs.Node.{fresh, blank}
use Rattle.node.specs.State.{State, state}
use Rattle.outcome.specs.Request.{load_report, fault_report, no_report, Outcome, execute, CallResult, request_refusal, handle_request}

abbrev pub settings7 : Settings
settings7 = record { address = 7; hwpid = 0x2471; dpa_value = 0x33; lamp_count = 3; step = 10 }

abbrev pub eeprom : List ℕ
eeprom = 0x11 ∷ 0x22 ∷ replicate 190 0x00

abbrev pub given : State
given = state (fresh settings7) eeprom (replicate 16384 0x00)

-- a request
abbrev pub ask : (pnum pcmd hwpid : ℕ) → List ℕ → Outcome
ask pnum pcmd hwpid pdata = execute (request_of pnum pcmd hwpid pdata) given

-- a code check of 64 zeros at the start of external memory, with these flags and this high byte of the checksum
abbrev pub check : (flags high : ℕ) → Outcome
check flags high = ask 0x02 0x0A 0x2471 (flags ∷ 0x00 ∷ 0x00 ∷ 0x40 ∷ 0x00 ∷ 0x01 ∷ high ∷ [])

-- a call
abbrev pub buffer : List ℕ
buffer = replicate 64 0xEE

abbrev pub call : List ℕ → CallResult
call frame = handle_request frame given buffer

-- the result of a call that changes nothing and reports nothing, with this length of the response and these bytes in the buffer
abbrev pub answered : (size : ℕ) → List ℕ → CallResult
answered size bytes =
    record { after = given; refusal = 0; length = size; report = no_report; addressed = true; response = bytes }

-- the result of a frame for another node
abbrev pub not_mine : CallResult
not_mine = record { after = given; refusal = 0; length = 0; report = no_report; addressed = false; response = buffer }

-- the refusal for this node and the lengths of frame, EEPROM, external memory and buffer
abbrev pub refuse : (frame eeprom external response : ℕ) → ℕ
refuse frame eeprom external response = request_refusal (fresh settings7) frame eeprom external response

pub record RequestExamples : Type 0 where
  -- the HWPID comes before the PNUM, the PNUM before the PCMD, the PCMD before the length of PData
  pub hwpid_first : (ask 0x20 0x7F 0x1234 []).error ≡ 7
  pub hwpid_first_os : (ask 0x02 0x05 0x1234 []).error ≡ 7
  pub hwpid_first_selective : (ask 0x02 0x0B 0x1234 (replicate 31 0x00)).answered ≡ true
  pub pnum_second : (ask 0x20 0x7F 0x2471 []).error ≡ 3
  pub eeprom_pcmd : (ask 0x03 0x02 0x2471 []).error ≡ 2
  pub external_pcmd : (ask 0x04 0x01 0x2471 []).error ≡ 2
  pub lights_pcmd : (ask 0x71 0x03 0x2471 []).error ≡ 2
  pub os_pcmd : (ask 0x02 0x00 0x2471 []).error ≡ 2
  pub wildcard_accepted : (ask 0x03 0x00 0xFFFF []).error ≡ 5
  pub not_selected : (ask 0x02 0x0B 0x2471 (replicate 31 0x00)).answered ≡ false
  -- a batch without PData is not a list without its closing zero
  pub batch_empty : (ask 0x02 0x05 0x2471 []).error ≡ 5
  pub batch_unreported : (ask 0x02 0x05 0x2471 []).report ≡ no_report
  -- a write to each memory, by its PNUM
  pub eeprom_written : (ask 0x03 0x01 0x2471 (0x02 ∷ 0xAB ∷ [])).after
      ≡ state (fresh settings7) (0x11 ∷ 0x22 ∷ 0xAB ∷ replicate 189 0x00) (replicate 16384 0x00)
  pub ram_written : take 3 (ask 0x05 0x01 0x2471 (0x02 ∷ 0xAB ∷ [])).after.node.ram ≡ 0x00 ∷ 0x00 ∷ 0xAB ∷ []
  pub external_written : get_or (ask 0x04 0x03 0x2471 (0x02 ∷ 0x01 ∷ 0xAB ∷ [])).after.external 0x0102 0 ≡ 0xAB
  -- the load mark is set on a match, with flag bit 0
  pub match_loads : (check 0x01 0x40).report ≡ load_report true
  pub match_unloaded : (check 0x00 0x40).report ≡ no_report
  pub mismatch_unloaded : (check 0x01 0x41).report ≡ no_report
  pub match_answers : (check 0x01 0x40).bytes ≡ 0x01 ∷ []

pub record CallExamples : Type 0 where
  -- to this node, with the wildcard: the response has the node's address, HWPID and DpaValue, and its length counts the data
  pub data_answered : call (0x07 ∷ 0x00 ∷ 0x03 ∷ 0x00 ∷ 0xFF ∷ 0xFF ∷ 0x00 ∷ 0x02 ∷ [])
      ≡ answered 10 (0x07 ∷ 0x00 ∷ 0x03 ∷ 0x80 ∷ 0x71 ∷ 0x24 ∷ 0x00 ∷ 0x33 ∷ 0x11 ∷ 0x22 ∷ replicate 54 0xEE)
  -- an error has no data
  pub error_answered : call (0x07 ∷ 0x00 ∷ 0x03 ∷ 0x00 ∷ 0xFF ∷ 0xFF ∷ 0xBF ∷ 0x02 ∷ [])
      ≡ answered 8 (0x07 ∷ 0x00 ∷ 0x03 ∷ 0x80 ∷ 0x71 ∷ 0x24 ∷ 0x04 ∷ 0x33 ∷ replicate 56 0xEE)
  -- to all nodes: no response, neither to data nor to an error; the fault of a list is reported
  pub broadcast_silent : call (0xFF ∷ 0x00 ∷ 0x03 ∷ 0x00 ∷ 0xFF ∷ 0xFF ∷ 0x00 ∷ 0x02 ∷ []) ≡ answered 0 buffer
  pub broadcast_error : call (0xFF ∷ 0x00 ∷ 0x03 ∷ 0x00 ∷ 0xFF ∷ 0xFF ∷ 0xBF ∷ 0x02 ∷ []) ≡ answered 0 buffer
  pub broadcast_fault : (call (0xFF ∷ 0x00 ∷ 0x02 ∷ 0x05 ∷ 0xFF ∷ 0xFF ∷ 0x04 ∷ 0x00 ∷ [])).report ≡ fault_report 1 0
  -- to another node; NADR has two bytes
  pub other_node : call (0x08 ∷ 0x00 ∷ 0x03 ∷ 0x00 ∷ 0xFF ∷ 0xFF ∷ 0x00 ∷ 0x02 ∷ []) ≡ not_mine
  pub other_high_byte : call (0x07 ∷ 0x01 ∷ 0x03 ∷ 0x00 ∷ 0xFF ∷ 0xFF ∷ 0x00 ∷ 0x02 ∷ []) ≡ not_mine
  -- refusals: 1 the node, 2 the frame, 3 the buffer, 4 a memory, in this order
  pub refused_node : request_refusal blank 5 191 16383 63 ≡ 1
  pub refused_frame : refuse 5 191 16383 63 ≡ 2
  pub refused_buffer : refuse 6 191 16383 63 ≡ 3
  pub refused_memories : refuse 6 191 16383 64 ≡ 4
  pub shortest_accepted : refuse 6 192 16384 64 ≡ 0
  pub longest_accepted : refuse 62 192 16384 64 ≡ 0
  pub longer_refused : refuse 63 192 16384 64 ≡ 2
  pub eeprom_refused : refuse 62 193 16384 64 ≡ 4
  pub external_refused : refuse 62 192 16385 64 ≡ 4
