use Rattle.std.proofs.Common.{◌≡◌, [], ◌∷◌, sym, ◌∙◌, ap, subst}
use Rattle.gtp_machine.specs.Message.{Message}
use Rattle.gtp_machine.specs.Reading.{control_message}
use Rattle.gtp_gateway.specs.declared.receive.answer.ReadyAnswer.{ReadyAnswer}
use Rattle.gtp_gateway.specs.messages.Spelled.{messages_in, AreSpelledAll}
use Rattle.gtp_gateway.proofs.Opened.{then_ok}
use Rattle.gtp_gateway.proofs.Taking.{alone_in, alone_kept}
use Rattle.gtp_gateway.proofs.parts.Parts.ready_answer.Goals as goal

pub returns-clause-kept : goal.returns-clause-kept
returns-clause-kept c =
    let octets = c.in_ok-octets.octets.items in
    then_ok (λ (ready : ReadyAnswer). ready.answer.items ≡ octets) (λ (ready : ReadyAnswer). AreSpelledAll ready.answer.items)
    (λ ready is. subst AreSpelledAll (sym is) (alone_kept octets c.in_ok-octets.ensures.kept)) c.ready_octets.result c.ready_octets.ensures.answer

pub returns-clause-read : goal.returns-clause-read
returns-clause-read c =
    let octets = c.in_ok-octets.octets.items in
    then_ok (λ (ready : ReadyAnswer). ready.answer.items ≡ octets) (λ (ready : ReadyAnswer). messages_in ready.answer.items ≡ control_message c.args.message.now ∷ [])
    (λ ready is. ap messages_in is ∙ alone_in octets c.in_ok-octets.ensures.kept ∙ ap (λ (m : Message). m ∷ []) c.in_ok-octets.ensures.read) c.ready_octets.result c.ready_octets.ensures.answer
