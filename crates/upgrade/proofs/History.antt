-- The history of a run, along a list of calls that grows at its end: Execute was answered 00; after it the install ended with 00, before
-- the gateway ended. Assumes nothing.
use mathlib.Core.Path.{◌≡◌, refl, ◌∙◌, ap, subst}
use mathlib.Core.List.{List, [], ◌∷◌, ◌++◌, append_assoc}
use Rattle.upgrade.specs.Calls.{Call, Ends, Both}
use Rattle.upgrade.specs.Claims.{Executed, Installed, Ended, reached, InstalledBefore}

module _ (e : Ends) (start : Both e) where
  -- a call of the list brought 23 with 00
  pub record ExecutedIn (calls : List (Call e.Fact)) : Type 0 where
    pub earlier : List (Call e.Fact)
    pub execution : Call e.Fact
    pub between : List (Call e.Fact)
    pub split : calls ≡ earlier ++ (execution ∷ between)
    pub executed : Executed e (reached e start earlier) execution

  module _ (calls : List (Call e.Fact)) (c : Call e.Fact) where
    pub executed_later : ExecutedIn calls → ExecutedIn (calls ++ (c ∷ []))
    executed_later h =
        record {
          earlier = h.earlier;
          execution = h.execution;
          between = h.between ++ (c ∷ []);
          split = ap (λ (l : List (Call e.Fact)). l ++ (c ∷ [])) h.split ∙ append_assoc h.earlier (h.execution ∷ h.between) (c ∷ []);
          executed = h.executed;
        }

    pub executed_now : Executed e (reached e start calls) c → ExecutedIn (calls ++ (c ∷ []))
    executed_now x = record { earlier = calls; execution = c; between = []; split = refl; executed = x }

    pub installed_later : InstalledBefore e start calls → InstalledBefore e start (calls ++ (c ∷ []))
    installed_later h =
        record {
          earlier = h.earlier;
          execution = h.execution;
          between = h.between;
          installation = h.installation;
          since = h.since ++ (c ∷ []);
          split = ap (λ (l : List (Call e.Fact)). l ++ (c ∷ [])) h.split
              ∙ append_assoc h.earlier (h.execution ∷ (h.between ++ (h.installation ∷ h.since))) (c ∷ [])
              ∙ ap (λ (l : List (Call e.Fact)). h.earlier ++ (h.execution ∷ l)) (append_assoc h.between (h.installation ∷ h.since) (c ∷ []));
          executed = h.executed;
          installed = h.installed;
          not_ended = h.not_ended;
        }

    pub installed_now : ExecutedIn calls → Installed e (reached e start calls) c → (Ended e (reached e start calls) → ⊥)
        → InstalledBefore e start (calls ++ (c ∷ []))
    installed_now h x n =
        record {
          earlier = h.earlier;
          execution = h.execution;
          between = h.between;
          installation = c;
          since = [];
          split = ap (λ (l : List (Call e.Fact)). l ++ (c ∷ [])) h.split ∙ append_assoc h.earlier (h.execution ∷ h.between) (c ∷ []);
          executed = h.executed;
          installed = subst (λ (l : List (Call e.Fact)). Installed e (reached e start l) c) h.split x;
          not_ended = subst (λ (l : List (Call e.Fact)). Ended e (reached e start l) → ⊥) h.split n;
        }
