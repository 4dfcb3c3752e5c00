-- The cases of RFC 1321, computed. Assumes nothing.
use mathlib.Core.Path.{refl}
use Rattle.md5_rules.specs.Md5.{padding_of, padded, mix_f, mix_g, mix_h, mix_i, sines, block_word, step, steps, rounds, increased, compressed, blocks}
use Rattle.md5_rules.specs.Md5.{digest_of, md5_of}
use Rattle.md5_rules.specs.Cases.{Md5Cases}

pub md5_cases : Md5Cases
unfolding padding_of padded mix_f mix_g mix_h mix_i sines block_word step steps rounds increased compressed blocks digest_of md5_of
md5_cases = record { length_is = refl; padding_is = refl; word_is = refl; sine_is = refl; suite_is = refl; edge_is = refl }
