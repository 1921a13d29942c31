use Rattle.std.proofs.Common.{◌≢◌, ◌∙◌, sym, arith, length}
use Rattle.gtp_c.proofs.Naming.{alone, cut}
use Rattle.gtp_c.proofs.names.cut.Goals as goal

pub returns-then-len-octets : goal.returns-then-len-octets
returns-then-len-octets c = alone c.args.octets.now (sym c.word_length-len.ensures.value ∙ c.if-len-octets.true)

pub returns : goal.returns
returns c =
    let most = c.word_length-len.ensures.most in
    let differs : c.word_length-len.result ≢ length c.args.octets.now = c.if-len-octets.false in
    cut c.args.octets.now c.word_length-len.result c.word_length-len.ensures.value (omega (arith, most, differs))
