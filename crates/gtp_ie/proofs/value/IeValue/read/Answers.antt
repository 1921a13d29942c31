use Rattle.gtp_ie.specs.declared.fault.ReadFault.TheVariants.{Short, Bad}
use Rattle.gtp_ie.proofs.Reading.{reads_value, reads_only, reads_back, reads_fault}
use Rattle.gtp_ie.proofs.value.IeValue.read.Goals as goal

pub returns-clause-value : goal.returns-clause-value
returns-clause-value g c = reads_value g.Self.IeValue.value c.parse.result g.Self.IeValue.KIND c.args.body.now c.parse.ensures

pub returns-clause-only : goal.returns-clause-only
returns-clause-only g c = reads_only g.Self.IeValue.value c.parse.result g.Self.IeValue.KIND c.args.body.now c.parse.ensures

pub returns-clause-back : goal.returns-clause-back
returns-clause-back g c = reads_back g.Self.IeValue.value c.parse.result g.Self.IeValue.KIND c.args.body.now c.parse.ensures g.met.Self.IeValue.one_value

pub returns-clause-short : goal.returns-clause-short
returns-clause-short g c = reads_fault g.Self.IeValue.value c.parse.result g.Self.IeValue.KIND c.args.body.now Short c.parse.ensures

pub returns-clause-bad : goal.returns-clause-bad
returns-clause-bad g c = reads_fault g.Self.IeValue.value c.parse.result g.Self.IeValue.KIND c.args.body.now Bad c.parse.ensures
