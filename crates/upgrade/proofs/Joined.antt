-- Both halves of demand 3 joined: where the gateway has recorded success, the package stood in the image when Execute was answered 00.
-- Assumes nothing.
use mathlib.Core.Path.{◌≡◌, refl, sym, ◌∙◌, subst}
use mathlib.Core.List.{List, [], ◌∷◌, ◌++◌, append_assoc, append-nil}
use Prim.Native.Nat.{ℕ}
use Rattle.upgrade.specs.Fold.{Allowed}
use Rattle.upgrade.specs.Calls.{Call, Ends, Both, next, May}
use Rattle.upgrade.specs.Claims.{InstalledBefore, Demand3Of, UpgradeOf}
use Rattle.upgrade.proofs.Folds.{allowed_front}

pub joined : (e : Ends) (start : Both e) (content : List ℕ) → Demand3Of e start content → UpgradeOf e start content
joined e start content halves calls allowed success =
    let h : InstalledBefore e start calls = (halves calls allowed).1 success in
    let front : List (Call e.Fact) = h.earlier ++ (h.execution ∷ []) in
    let whole : calls ≡ front ++ (h.between ++ (h.installation ∷ h.since)) =
    h.split ∙ sym (append_assoc h.earlier (h.execution ∷ []) (h.between ++ (h.installation ∷ h.since))) in
    let image = (halves front (allowed_front (next e) May start front _ (subst (Allowed (next e) May start) whole allowed))).0
    h.earlier h.execution refl h.executed in
    record { history = h; package_there = image.0; rest_kept = image.1 front [] (sym (append-nil front)) }
