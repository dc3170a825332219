-- Document 01, "OS 02", PCMD 0A: the code check. The state in its reply is the load mark.
use Rattle.std.specs.Prelude.{ℕ, ◌+◌, ◌/◌, ◌%◌, List, [], ◌∷◌, Bool, false, cond, ◌&&◌, length, get_or, eqb, leb, ltb}
use Rattle.dpa.specs.Number.{word_at}
use Rattle.dpa.specs.Lists.{slice}
use Rattle.dpa.specs.Reply.{Reply, reply, error_reply}
use Rattle.dpa.specs.Sizes.{external_size}
use Rattle.checksum.specs.declared.check.Image.{Image}
use Rattle.checksum.specs.Sums.{sums, start, checksum}

-- the PCMD of a code check
abbrev pub code_check_pcmd : ℕ
code_check_pcmd = 0x0A

-- bytes of PData
abbrev pub pdata_length : ℕ
pdata_length = 7

-- flags, address, length, checksum
abbrev pub image_of : List ℕ → Image
image_of pdata = record { flags = get_or pdata 0 0; address = word_at pdata 1; length = word_at pdata 3; sum = word_at pdata 5 }

-- flag bit 0: load on a match
abbrev pub load_flag : ℕ → Bool
load_flag flags = eqb (flags % 2) 1

-- flag bit 1: an IQRF plug-in (document 004)
abbrev pub plugin_flag : ℕ → Bool
plugin_flag flags = eqb (flags / 2 % 2) 1

-- a flag from bit 2 up is set
abbrev pub reserved_flags : ℕ → Bool
reserved_flags flags = leb 4 flags

-- the length of an image is a multiple of this: 20 bytes for a plug-in, else 64
unfoldable pub size_of_block : ℕ → ℕ
size_of_block flags = cond (plugin_flag flags) 20 64

-- the low sum before the first byte: 3 for a plug-in, else 1
unfoldable pub initial_low_of : ℕ → ℕ
initial_low_of flags = cond (plugin_flag flags) 3 1

-- a flag from bit 2 up is set: 1; no bytes, or not a multiple of the block size: 6; the end is past external memory: 4
unfoldable pub image_error : Image → ℕ
image_error i =
    cond (reserved_flags i.flags) 1
    (cond (eqb i.length 0) 6
    (cond (eqb (i.length % size_of_block i.flags) 0)
    (cond (ltb external_size (i.address + i.length)) 4
    0)
    6))

-- the image's bytes have the checksum that came with it
unfoldable pub image_matches : List ℕ → Image → Bool
image_matches external i =
    eqb (checksum (sums (start (initial_low_of i.flags)) (slice external i.address i.length))) i.sum

-- one byte, 1 on a match; the load mark is set exactly on a match with flag bit 0
abbrev pub check_answer : Bool → Image → Reply Bool
check_answer match i = reply (match && load_flag i.flags) 0 (cond match 1 0 ∷ [])

-- PData of another length: 5; then the errors of the image
unfoldable pub code_check : List ℕ → List ℕ → Reply Bool
code_check external pdata =
    cond (eqb (length pdata) pdata_length)
    (cond (eqb (image_error (image_of pdata)) 0)
    (check_answer (image_matches external (image_of pdata)) (image_of pdata))
    (error_reply false (image_error (image_of pdata))))
    (error_reply false 5)
