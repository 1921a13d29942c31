use Rattle.std.proofs.Common.{sym, ap, ◌∙◌}
use Rattle.gtp_v2.specs.reading.Headed.{headed_of}
use Rattle.gtp_v2.specs.Viewed.{optional_at, Viewed}
use Rattle.gtp_v2.specs.reading.Viewed.{list_or_none}
use Rattle.gtp_v2.proofs.Views.{is_read, field_is, there_is, none_is}
use Rattle.gtp_v2.proofs.viewing.MessageView.value.Goals as goal

pub returns-in-Some-clause-field : goal.returns-in-Some-clause-field
returns-in-Some-clause-field g c = λ values is.
    let kept = sym (ap list_or_none c.in-Some.is) ∙ ap (λ (v : Viewed). v.elements) c.self.view_is in
    let read = is_read (headed_of c.self.inside.header) c.self.inside.elements c.args.self.now c.self.view_is c.self.invariant in
    c.optional.ensures ∙ ap (optional_at g.T.IeValue.KIND c.args.instance) kept ∙ field_is g.T.IeValue.KIND c.args.instance c.args.self.now read values is

pub returns-in-None-clause-element : goal.returns-in-None-clause-element
returns-in-None-clause-element g c = none_is g.T.IeValue.KIND c.args.instance (headed_of c.self.inside.header) c.self.inside.elements c.args.self.now c.in-None.is c.self.view_is

pub returns-in-Some-clause-row : goal.returns-in-Some-clause-row
returns-in-Some-clause-row g c = λ has.
    let kept = sym (ap list_or_none c.in-Some.is) ∙ ap (λ (v : Viewed). v.elements) c.self.view_is in
    let read = is_read (headed_of c.self.inside.header) c.self.inside.elements c.args.self.now c.self.view_is c.self.invariant in
    c.optional.ensures ∙ ap (optional_at g.T.IeValue.KIND c.args.instance) kept ∙ there_is g.T.IeValue.KIND c.args.instance c.args.self.now read has

pub returns-in-None-clause-row : goal.returns-in-None-clause-row
returns-in-None-clause-row g c = λ has.
    let read = is_read (headed_of c.self.inside.header) c.self.inside.elements c.args.self.now c.self.view_is c.self.invariant in
    none_is g.T.IeValue.KIND c.args.instance (headed_of c.self.inside.header) c.self.inside.elements c.args.self.now c.in-None.is c.self.view_is
    ∙ there_is g.T.IeValue.KIND c.args.instance c.args.self.now read has
