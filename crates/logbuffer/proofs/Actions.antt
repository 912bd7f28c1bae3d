-- The handler's answers: the one to a fragment, by its index, and whether all from an index on are good.
use Rattle.std.proofs.Common.{◌≡◌, ℕ, zero, suc, ◌+◌, ◌<◌, ◌≤◌, true, false, ◌&&◌, leb, List, [], ◌∷◌, length, get_or, drop, sym, refl, ◌∙◌, add-one, arith, drop_of_length-le, drop-cons, le-leb}
use borrow.Author.Tests.{lt-leb}
use Rattle.model.specs.TermReader.{next_action, good_actions}

pub action-given : (acts : List ℕ) (k : ℕ) → k < length acts → get_or acts k 0 ≡ next_action (drop k acts)
action-given [] k h = absurd (omega arith)
action-given (a ∷ acts) zero h = refl
action-given (a ∷ acts) (suc k) h = action-given acts k (omega arith)

pub action-none : (acts : List ℕ) (k : ℕ) → length acts ≤ k → 4 ≡ next_action (drop k acts)
action-none [] zero h = refl
action-none [] (suc k) h = refl
action-none (a ∷ acts) zero h = absurd (omega arith)
action-none (a ∷ acts) (suc k) h = action-none acts k (omega arith)

-- the answers from an index on
module _ (acts : List ℕ) (i : ℕ) where
  pub actions-end : length acts ≤ i → true ≡ good_actions (drop i acts)
  unfolding good_actions
  actions-end h = rw (drop_of_length-le acts h)

  actions-next : i < length acts → good_actions (drop i acts) ≡ ((leb 1 (get_or acts i 0) && leb (get_or acts i 0) 4) && good_actions (drop (i + 1) acts))
  unfolding good_actions
  actions-next h = rw (add-one, drop-cons acts i 0)

  pub actions-low : i < length acts → get_or acts i 0 < 1 → false ≡ good_actions (drop i acts)
  actions-low h k = sym (actions-next h ∙ rw (lt-leb 1 (get_or acts i 0) k))

  pub actions-high : i < length acts → 1 ≤ get_or acts i 0 → 4 < get_or acts i 0 → false ≡ good_actions (drop i acts)
  actions-high h k l = sym (actions-next h ∙ rw (le-leb 1 (get_or acts i 0) k, lt-leb (get_or acts i 0) 4 l))

  pub actions-again : i < length acts → 1 ≤ get_or acts i 0 → get_or acts i 0 ≤ 4 → good_actions (drop (i + 1) acts) ≡ good_actions (drop i acts)
  actions-again h k l = sym (actions-next h ∙ rw (le-leb 1 (get_or acts i 0) k, le-leb (get_or acts i 0) 4 l))
