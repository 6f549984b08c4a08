-- The letter that a node offers a deal with is the machine's.
use Rattle.std.proofs.Common.{◌≡◌, ◌≤◌, ℕ, true, List, [], ◌++◌, length, map, option_to_list, Option, Some, None, sym, ◌∙◌, ap, subst, arith}
use Rattle.psb_settings.specs.declared.settings.Settings.{Settings}
use Rattle.psb_station.proofs.Spans.{same_some}
use Rattle.psb_model.specs.State.{State}
use Rattle.psb_model.specs.History.{state}
use Rattle.psb_model.specs.Needed.{IsValid}
use Rattle.psb_model.specs.declared.deals.Deal.{Deal}
use Rattle.psb_model.specs.declared.change.Change.{Change}
use Rattle.wire_codec.specs.Frames.{key_in}
use Rattle.psb_machine.specs.Letters.{spelled}
use Rattle.psb_machine.specs.Proposals.{deal_letters, is_askable}
use Rattle.psb_machine.specs.Machine.{Situation}
use Rattle.node_letters.specs.Letters.{letters_of}
use Rattle.node_letters.specs.Peers.{peers_of}
use Rattle.node_letters.specs.declared.letter.Letter.{Letter}
use Rattle.node_history.specs.Less.{IsLess}
use Rattle.own_offers.specs.Offers.{IsLetter}
use Rattle.own_offers.proofs.Letters.{letters_less}
use Rattle.node_core.specs.declared.node.Node.{Node}
use Rattle.node_core.specs.Stored.{Knows}

-- what is asked by the history that its log holds is asked by the whole one
pub letter_known : {L : Type 0} (node : Node L) (n : Situation) (less : List Change) (settings : Settings) (p : ℕ) (key : List ℕ) (d : Deal) (o : Option Letter) → Knows node n → (state n.history).settings ≡ Some settings → key_in node.peers.keys p ≡ Some key
    → is_askable node.ledger.state p d.what ≡ true → IsLess n.history less → IsValid less → IsLetter o node.peers node.claims.seed less p d → letters_of (option_to_list o) ≡ map (spelled settings) (deal_letters settings n.history p d)
letter_known node n less settings p key d o k present here askable is valid letter =
    let same : k.settings.settings ≡ settings = same_some (state n.history).settings k.settings.settings settings k.settings.present present in
    letter settings key (k.settings.peers ∙ ap peers_of same) (ap (λ (s : Settings). s.seed) (sym same) ∙ sym k.settings.seed) here
    ∙ ap (map (spelled settings)) (letters_less settings n.history less p d is valid (subst (λ (s : State). is_askable s p d.what ≡ true) k.ledger askable))

-- ---- the letters of a reaction that had none

pub the_one : (before after : List Letter) (o : Option Letter) → before ≡ [] → after ≡ before ++ option_to_list o → after ≡ option_to_list o
the_one before after o none is = is ∙ ap (λ (l : List Letter). l ++ option_to_list o) none

pub one_at_most : (o : Option Letter) → length (option_to_list o) ≤ 1
one_at_most None = omega arith
one_at_most (Some letter) = omega arith
