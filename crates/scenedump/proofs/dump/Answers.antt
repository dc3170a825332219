-- `dump`: the scenes of a well-formed book are printed.
use Rattle.std.proofs.Common.{sym, ◌∙◌, arith}
use Rattle.book.proofs.Books.{book_facts}
use Rattle.book.proofs.Checks.{sound_book}
use Rattle.scenedump.proofs.dump.Goals as goal

pub print_book-requires : goal.print_book-requires
print_book-requires g c = sound_book _ (sym c.check_book.ensures ∙ c.in_default.is)

pub print_scenes-requires : goal.print_scenes-requires
print_scenes-requires g c = omega (arith, book_facts _ (sound_book _ (sym c.check_book.ensures ∙ c.in_default.is)))
