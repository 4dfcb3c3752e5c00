-- What a record that passed 29 tells. Assumes nothing.
use Prim.Native.Nat.{◌*◌, ◌≤◌}
use mathlib.Core.Path.{◌≡◌}
use mathlib.Core.Bool.{true, ◌&&◌}
use lib.Dec.{leb}
use borrow.Author.Tests.{leb-true, eqb-true}
use Rattle.basis.proofs.Choosing.{and_left, and_right}
use Rattle.message.specs.Limits.{size_min, size_max, size_ok, total_max}
use Rattle.message.specs.Version.{good_version}
use Rattle.gateway_record.specs.declared.Gateway.{Gateway}
use Rattle.gateway_record.specs.Record.{ended, upgrade_failed, total_of, length_ok, record_ok}

pub record Sound (g : Gateway) : Type 0 where
  pub version : good_version g.fields.version ≡ true
  pub size : size_ok g.fields.size ≡ true
  pub low : size_min ≤ g.fields.size
  pub high : g.fields.size ≤ size_max
  pub some : 1 ≤ g.length
  pub most : g.length ≤ total_max * g.fields.size
  pub total : g.fields.total ≡ total_of g.length g.fields.size

pub told : (g : Gateway) → record_ok g ≡ true → Sound g
unfolding record_ok size_ok length_ok
told g e =
    let texts = and_right (leb g.phase ended && leb g.ending upgrade_failed) _ e in
    let numbers = and_right (good_version g.fields.version) _ texts in
    let sizes = and_left (leb size_min g.fields.size && leb g.fields.size size_max) _ numbers in
    let rest = and_right (leb size_min g.fields.size && leb g.fields.size size_max) _ numbers in
    let lengths = and_left (leb 1 g.length && leb g.length (total_max * g.fields.size)) _ rest in
    record {
      version = and_left _ _ texts;
      size = sizes;
      low = leb-true _ _ (and_left _ _ sizes);
      high = leb-true _ _ (and_right (leb size_min g.fields.size) _ sizes);
      some = leb-true _ _ (and_left _ _ lengths);
      most = leb-true _ _ (and_right (leb 1 g.length) _ lengths);
      total = eqb-true _ _ (and_right (leb 1 g.length && leb g.length (total_max * g.fields.size)) _ rest);
    }
