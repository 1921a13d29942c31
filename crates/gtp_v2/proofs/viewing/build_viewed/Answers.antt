use Rattle.std.proofs.Common.{subst, sym}
use Rattle.std.specs.Prelude.{Result, IsOk}
use Rattle.gtp_v2.specs.declared.fault.V2Fault.{V2Fault}
use Rattle.gtp_v2.specs.reading.Headed.{headed_of}
use Rattle.gtp_v2.specs.Message.{Content, ContentAllocates, MessageGives}
use Rattle.gtp_v2.specs.Body.{content_of}
use Rattle.gtp_v2.specs.declared.message.Datagram.{Datagram}
use Rattle.gtp_v2.specs.Tables.{table_of}
use Rattle.gtp_v2.specs.reading.Message.{content_at}
use Rattle.gtp_v2.proofs.Checks.{reads_ok}
use Rattle.gtp_v2.proofs.Views.{viewed_content}
use Rattle.gtp_v2.proofs.viewing.build_viewed.Goals as goal

pub returns-in-Some-clause-content : goal.returns-in-Some-clause-content
returns-in-Some-clause-content c =
    subst (λ (outcome : Result Content V2Fault). MessageGives (ContentAllocates (table_of c.args.header.now.kind)) (λ (d : Datagram). content_of d.message.body) c.build_datagram.result outcome)
    (viewed_content (headed_of c.args.header.now) c.args.elements.now c.in-Some.elements c.requires c.in-Some.is) c.build_datagram.ensures.content

pub build_datagram-requires : goal.build_datagram-requires
build_datagram-requires c =
    let h = headed_of c.args.header.now in
    subst (λ (r : Result Content V2Fault). IsOk r) (sym (viewed_content h c.args.elements.now c.in-Some.elements c.requires c.in-Some.is)) (reads_ok (content_at h) c.requires.reads)
