use Rattle.gtp_v2.proofs.Told.{built_marked}
use Rattle.gtp_v2.proofs.viewing.MessageView.to_datagram.Goals as goal

pub returns-clause-marks : goal.returns-clause-marks
returns-clause-marks c = built_marked c.self.inside.header c.build_viewed.result c.build_viewed.ensures.content c.build_viewed.ensures.kind c.build_viewed.ensures.header
