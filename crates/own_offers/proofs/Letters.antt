-- The letter that asks for a deal is the machine's.
use Rattle.std.proofs.Common.{◌≡◌, ℕ, true, List, [], unwrap_or, option_map, option_to_list, Option, Some, refl, sym, ap, ◌∙◌}
use Rattle.std.proofs.lemmas.Bool.{and_parts}
use Rattle.psb_settings.specs.declared.settings.Settings.{Settings}
use Rattle.psb_model.specs.State.{State, own_has}
use Rattle.psb_model.specs.History.{state}
use Rattle.psb_model.specs.Needed.{IsValid}
use Rattle.psb_model.specs.declared.deals.Deal.{Deal}
use Rattle.psb_model.specs.declared.deals.DealWhat.{DealWhat}
use Rattle.psb_model.specs.declared.deals.DealWhat.TheVariants.{Fresh, Swap, Cancel, PutBack, Forward, Return}
use Rattle.psb_model.specs.declared.change.Change.{Change}
use Rattle.wire_codec.specs.Fields.{are_slots}
use Rattle.wire_codec.specs.Frames.{key_in, datagram}
use Rattle.wire_codec.specs.declared.frame.Frame.{Frame}
use Rattle.wire_codec.specs.declared.frame.Frame.TheVariants as frame
use Rattle.psb_machine.specs.Letters.{key_with, spelled}
use Rattle.psb_machine.specs.Replies.{claims_from}
use Rattle.psb_machine.specs.Proposals.{letter_of, deal_letters, frame_of, is_askable, units_there}
use Rattle.node_letters.specs.Peers.{PeersView, peers_of}
use Rattle.node_history.specs.Less.{IsLess}
use Rattle.node_history.proofs.Less.{less_same}
use Rattle.node_facts.proofs.OwnChain.{own_held}

-- a letter to a peer with this key, as it goes out
pub spelled_by : (peers : PeersView) (settings : Settings) (p number : ℕ) (key : List ℕ) (f : Frame) → peers ≡ peers_of settings → key_in peers.keys p ≡ Some key → (p, datagram key peers.own.id p number f) ≡ spelled settings (letter_of p number f)
spelled_by peers settings p number key f are here =
    let known : key_with settings p ≡ key = ap (λ (v : PeersView). unwrap_or (key_in v.keys p) []) (sym are) ∙ ap (λ (o : Option (List ℕ)). unwrap_or o []) here in
    ap (λ (v : PeersView). (p, datagram key v.own.id p number f)) are
    ∙ ap (λ (q : List ℕ). (p, datagram q settings.id p number f)) (sym known)

-- ---- less bodies that were given up

frame_less : (settings : Settings) (h less : List Change) (p : ℕ) (what : DealWhat) → IsLess h less → IsValid less → is_askable (state h) p what ≡ true → frame_of settings less p what ≡ frame_of settings h p what
frame_less settings h less p (Fresh name) is v own = ap (option_map (frame.Store name [])) ((less_same h less is).same_bytes v name (own_held (state h) name own))
frame_less settings h less p (Swap name numbers) is v own =
    ap (option_map (frame.Store name numbers)) ((less_same h less is).same_bytes v name (own_held (state h) name (and_parts (own_has (state h).own name) (are_slots 0 numbers) own).0))
frame_less settings h less p (Cancel name numbers) is v own = refl
frame_less settings h less p (PutBack name first) is v own = ap (λ (s : State). Some (frame.PutBack name (claims_from settings.seed first (units_there s p name)))) (less_same h less is).one_state
frame_less settings h less p (Forward slot entry) is v own = refl
frame_less settings h less p (Return slot) is v own = refl

-- what is asked by the history that the log holds is asked by the whole one
pub letters_less : (settings : Settings) (h less : List Change) (p : ℕ) (d : Deal) → IsLess h less → IsValid less → is_askable (state h) p d.what ≡ true → deal_letters settings less p d ≡ deal_letters settings h p d
letters_less settings h less p d is v own = ap (λ (o : Option Frame). option_to_list (option_map (letter_of p d.number) o)) (frame_less settings h less p d.what is v own)
