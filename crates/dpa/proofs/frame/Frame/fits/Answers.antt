-- `frame::Frame::fits` meets its contract: each return computes the definition from the tests before it.
use borrow.Author.Tests.{lt-leb, le-leb}
use Rattle.dpa.specs.Frame.{frame_fits}
use Rattle.dpa.proofs.frame.Frame.fits.Goals as goal

pub returns-then-n-lt-HEADER : goal.returns-then-n-lt-HEADER
unfolding frame_fits
returns-then-n-lt-HEADER c = simp (lt-leb _ _ c.if-n-lt-HEADER.true)

pub returns : goal.returns
unfolding frame_fits
returns c = simp (le-leb _ _ c.if-n-lt-HEADER.false)
