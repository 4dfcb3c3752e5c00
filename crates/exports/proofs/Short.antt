-- A buffer that is too short for a record, or for MD5's state, is refused first of all. Assumes nothing.
use mathlib.Core.Path.{sym, ap}
use Rattle.md5_layout.specs.Layout.{state_length}
use Rattle.layout_rules.specs.Layout.{device_length, gateway_length}
use Rattle.exports.specs.Exports.{device_new_of, device_receive_of, device_next_message_of, device_install_finished_of, device_give_digest_of, gateway_start_of}
use Rattle.exports.specs.Exports.{gateway_receive_of, gateway_next_message_of}
use Rattle.exports.specs.Digests.{left, md5_new_of, md5_feed_of, md5_finish_of}
use Rattle.exports.specs.Boundary.{Short}
use Rattle.exports.proofs.ExportLaws.{too_short}

pub short_refused : Short
unfolding device_new_of device_receive_of device_next_message_of device_install_finished_of device_give_digest_of gateway_start_of gateway_receive_of
    gateway_next_message_of
    md5_new_of md5_feed_of md5_finish_of
short_refused = record {
  device_new = λ bytes version h. sym (too_short device_length bytes _ _ h);
  device_receive = λ bytes image map reply supported pcp condition message h. sym (too_short device_length bytes _ _ h);
  device_next_message = λ bytes image map reply h. sym (too_short device_length bytes _ _ h);
  device_install_finished = λ bytes code h. sym (too_short device_length bytes _ _ h);
  device_give_digest = λ bytes digest h. sym (too_short device_length bytes _ _ h);
  gateway_start = λ bytes version size content checked h. sym (too_short gateway_length bytes _ _ h);
  gateway_receive = λ bytes content reply supported pcp message h. sym (too_short gateway_length bytes _ _ h);
  gateway_next_message = λ bytes content reply h. sym (too_short gateway_length bytes _ _ h);
  md5_new = λ bytes h. ap left (sym (too_short state_length bytes _ _ h));
  md5_feed = λ bytes piece h. ap left (sym (too_short state_length bytes _ _ h));
  md5_finish = λ bytes digest h. sym (too_short state_length bytes _ _ h);
}
