-- `frame::Frame::read` meets its contract.
use Rattle.dpa.proofs.frame.Frame.read.Goals as goal

pub returns : goal.returns
returns c = rw (c.word_of-2.ensures, c.word_of.ensures)
