-- Document 01, "Taking a request": the peripheral numbers other than those of the memories.
use Rattle.std.specs.Prelude.{ℕ}

abbrev pub os_pnum : ℕ
os_pnum = 0x02

abbrev pub lights_pnum : ℕ
lights_pnum = 0x71
