-- The choices of a good policy: what is one of them, each once, how many there are.
-- Assumes nothing.
use mathlib.Core.Path.{◌≡◌}
use mathlib.Core.Logic.{◌⊎◌, inl, inr}
use mathlib.Core.Bool.{So}
use mathlib.Core.List.{List, []}
use Prim.Native.Nat.{ℕ}
use native.Mathlib.Numerals.{add-one}
use native.Mathlib.Omega.{arith}
use lib.Dec.{eqb}
use lib.ListN.{length}
use Rattle.paths.proofs.Bools.{either, eqb-to}
use Rattle.gran.specs.Lists.{none, Distinct, member, places, numbers}
use Rattle.gran.specs.Policy.{Policy, Allowed, USER, GROUP, SPECIAL}
use Rattle.gran.specs.Match.{is_subject, subjects, paths_of_s, subject_of}
use Rattle.gran.specs.Role.{of_kind, role_of, may_take}
use Rattle.gran.specs.Good.{Good, states_of}
use Rattle.gran.specs.Abstract.{reaches}
use Rattle.gran.proofs.Members.{member-has, has-member, places_of}
use Rattle.gran.proofs.Counting.{only_distinct, numbers_distinct, few-subjects}
use Rattle.gran.proofs.Policies.{Known, S_most}
use Rattle.runs.specs.Steps.{choices}
use Rattle.runs.proofs.Choices.{ByRank, choices_rising}
use Rattle.runs.proofs.Steps as steps
use Rattle.runs.proofs.Steps.{special_choice, path_of-S}
use Rattle.tables.proofs.Choices.{choices-length}
use Rattle.numbered.specs.Number.{all_states, Sized, sizes_of}
use Rattle.numbered.proofs.Places.{place_at, rising_distinct}

module _ (P : Policy) where
  -- ---- roles

  pub choice_known : (k r : ℕ) → So (member r (choices P k)) → Known P r
  unfolding choices
  choice_known k r m = go (either (eqb r none) _ m)
    where
      go : So (eqb r none) ⊎ So (member r (places (of_kind k) 0 P.roles)) → Known P r
      go (inl e) = inl (eqb-to r none e)
      go (inr t) = inr (omega (arith, places_of (of_kind k) 0 P.roles (member-has r _ t)))

  -- None is a choice, and so is what an id has, or what allowed ids reach.
  pub none_choice : (k r : ℕ) → r ≡ none → So (member r (choices P k))
  none_choice k r e = has-member (choices P k) (steps.none_choice P k r e)

  pub role_of_choice : (k n : ℕ) → So (member (role_of P k n) (choices P k))
  role_of_choice k n = has-member (choices P k) (steps.role_of_choice P k n)

  pub reaches_choice : (k : ℕ) (a : Allowed) (r : ℕ) → So (reaches P k a r) → So (member r (choices P k))
  reaches_choice k a r t = has-member (choices P k) (steps.reaches_choice P k a r t)

  module _ (good : Good P) where
    pub take_choice : (r s : ℕ) → So (may_take P r s) → So (member s (choices P SPECIAL))
    take_choice r s t = has-member (choices P SPECIAL) (special_choice P good r s t)

    pub choices_distinct : (k : ℕ) → Distinct (choices P k)
    unfolding ByRank
    choices_distinct k = rising_distinct ByRank (λ r h. omega arith) (choices P k) (choices_rising P good k)

    -- ---- subjects

    pub subjects_distinct : Distinct (paths_of_s P)
    unfolding paths_of_s
    subjects_distinct = only_distinct (is_subject P) (numbers 0 (length P.paths)) (numbers_distinct 0 (length P.paths))

    -- A subject of S is one of its paths.
    pub path_choice : (s : ℕ) → So (member s (subjects P)) → So (member s (paths_of_s P))
    path_choice s m = has-member (paths_of_s P) (path_of-S P good s m)

    -- What a file stands for is in S.
    pub subject_of_choice : (f : List ℕ) → So (member (subject_of P f) (paths_of_s P))
    subject_of_choice f = path_choice (subject_of P f) (S_most P good f).inside

    -- ---- how many

    pub states_are : all_states (sizes_of P) ≡ states_of P
    unfolding all_states sizes_of states_of
    states_are = simp (choices-length P SPECIAL, choices-length P USER, choices-length P GROUP, add-one)

    pub sized : Sized (sizes_of P)
    unfolding sizes_of
    sized = record {
      specials = omega (arith, choices-length P SPECIAL, good.few_specials);
      users = omega (arith, choices-length P USER, good.few_users);
      groups = omega (arith, choices-length P GROUP, good.few_groups);
      subjects = omega (arith, (place_at (subject_of P []) (paths_of_s P) (subject_of_choice [])).inside, few-subjects P, good.few_entries);
      few = rw states_are good.few_states;
    }
