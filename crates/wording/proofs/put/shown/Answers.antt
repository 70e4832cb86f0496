-- `wording::put::shown` meets its contract: the text is put as it is, and marked where it stands.
use Rattle.wording.proofs.Marked.{marked_text}
use Rattle.wording.proofs.put.shown.Goals as goal

pub returns : goal.returns
returns c = marked_text c.args.mark c.min-start.ensures c.text-end.ensures c.mark_over.ensures
