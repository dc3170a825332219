-- `steps::print_book`: a well-formed book has a count.
use Rattle.std.proofs.Common.{arith}
use Rattle.book.proofs.Books.{book_facts}
use Rattle.scenedump.proofs.steps.print_book.Goals as goal

pub bounds-book-0 : goal.bounds-book-0
bounds-book-0 g c = omega (arith, book_facts _ c.requires)
