-- Each law is proved of all runs in `Safety`.
use Rattle.gtp_machine.proofs.Worlds.Safety.{always_of_datagrams, always_one_message, always_planes_apart, always_goes_back, always_names_back}
use Rattle.gtp_machine.proofs.Worlds.Safety.{always_none_ahead, always_known, always_opened, always_closes_whole, always_made_once, always_once}
use Rattle.gtp_machine.proofs.Worlds.Safety.{always_answered_by_taker}
use Rattle.gtp_machine.proofs.Worlds.Answering.{each_response}
use Rattle.gtp_machine.proofs.laws.foundations.Goals as goal

pub returns : goal.returns
returns c = record {
  kept = always_of_datagrams;
  one_message = always_one_message;
  planes_apart = always_planes_apart;
  goes_back = always_goes_back;
  names = always_names_back;
  responses = each_response;
  answerers = always_answered_by_taker;
  none_ahead = always_none_ahead;
  known = always_known;
  bearers_once = always_once;
  opened = always_opened;
  closes_whole = always_closes_whole;
  made_once = always_made_once;
}
