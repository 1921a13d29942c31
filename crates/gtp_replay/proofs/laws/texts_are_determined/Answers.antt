-- The laws are proved in `OneTelling` and `Determined`.
use Rattle.gtp_replay.proofs.Determined.{forms_one}
use Rattle.gtp_replay.proofs.OneTelling.{text_one, tell_one}
use Rattle.gtp_replay.proofs.laws.texts_are_determined.Goals as goal

pub returns-clause-text : goal.returns-clause-text
returns-clause-text c = text_one

pub returns-clause-told : goal.returns-clause-told
returns-clause-told c = tell_one

pub returns-clause-forms : goal.returns-clause-forms
returns-clause-forms c = forms_one
