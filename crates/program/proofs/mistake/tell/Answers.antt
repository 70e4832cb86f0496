-- `program::mistake::tell` meets its contract: there is room for every sentence, so what is said is the mistake's own.
use Rattle.wording.proofs.Putting.{whole, counted}
use Rattle.program.proofs.Sentences.{sentence_short}
use Rattle.program.proofs.mistake.tell.Goals as goal

pub slice_bounds-say-end : goal.slice_bounds-say-end
slice_bounds-say-end c = counted (sentence_short c.args.mistake) c.put-size.ensures

pub say-requires : goal.say-requires
say-requires c = whole (sentence_short c.args.mistake) c.put-size.ensures
