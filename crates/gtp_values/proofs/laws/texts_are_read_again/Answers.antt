use Rattle.gtp_values.proofs.Addresses.{writes_it, one_ip}
use Rattle.gtp_values.proofs.Digits.{digits_again}
use Rattle.gtp_values.proofs.TeidsAsText.{teid_again, one_teid}
use Rattle.gtp_values.proofs.NamesAsText.{one_name, text_of_labels}
use Rattle.gtp_values.proofs.laws.texts_are_read_again.Goals as goal

pub returns : goal.returns
returns c = record { subscriber = digits_again; labels = λ labels each. text_of_labels labels; name = one_name; teid = teid_again; one_teid = one_teid; address = writes_it; one_address = one_ip }
