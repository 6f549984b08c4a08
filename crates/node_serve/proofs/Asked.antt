-- Gets that are sent beside the letters of inputs.
use Rattle.std.proofs.Common.{◌≡◌, ℕ, ◌+◌, ◌≤◌, Bool, true, List, [], ◌∷◌, ◌++◌, length, map, flat_map, Option, Some, refl, sym, ◌∙◌, ap, subst, arith}
use Rattle.std.proofs.lemmas.List.{append-nil}
use Rattle.psb_station.specs.View.{View, Outside}
use Rattle.psb_station.specs.Calls.{Grows}
use Rattle.psb_station.specs.Span.{Tells_bytes}
use Rattle.psb_station.proofs.Spans.{weakened}
use Rattle.node_journal.specs.Entry.{Entry}
use Rattle.psb_machine.specs.Machine.{Situation}
use Rattle.psb_machine.specs.Course.{Telling, Send, after_all, tellings, sent_of, said_of, sent_in, said_in, taken_in, dropped_in}
use Rattle.psb_machine.specs.Commands.{get_by, gets}
use Rattle.psb_machine.proofs.Peers.{settings_read}
use Rattle.psb_settings.specs.Settings.{most_peers}
use Rattle.node_letters.specs.Letters.{letters_of}
use Rattle.node_letters.specs.declared.letter.Letter.{Letter}
use Rattle.node_core.specs.declared.node.Node.{Node}
use Rattle.node_history.specs.Stands.{ReopensTo}
use Rattle.node_core.specs.Stored.{Knows, Stored}
use Rattle.node_core.proofs.Reopened.{stored_at, stored_reopens}
use Rattle.node_serve.specs.Asks.{sends, only_lost}
use Rattle.node_serve.specs.Sends.{AreSent, Sends}
use Rattle.node_serve.specs.Spans.{IsPrefixSoon, Fed}
use Rattle.node_serve.proofs.Joined.{length_map}
use Rattle.node_serve.proofs.OneTurn.{sent_of-letters, said_of-letters, many_letters}
use Rattle.node_serve.proofs.Prefixes.{whole, whole_has_all}
use Rattle.node_serve.proofs.Tries.{grows_none, told_as}

stays : (n : Situation) (letters : List (ℕ × List ℕ)) → after_all n (sends letters) ≡ n
stays n [] = refl
stays n (letter ∷ letters) = stays n letters

all_told : (n : Situation) (letters : List (ℕ × List ℕ)) → tellings n (sends letters) ≡ map Send letters
all_told n [] = refl
all_told n (letter ∷ letters) = ap (λ (l : List Telling). Send letter ∷ l) (all_told n letters)

none_taken : (letters : List (ℕ × List ℕ)) → taken_in (sends letters) ≡ 0
none_taken [] = refl
none_taken (letter ∷ letters) = omega (arith, none_taken letters)

none_dropped : (n : Situation) (letters : List (ℕ × List ℕ)) → dropped_in n (sends letters) ≡ 0
none_dropped n [] = refl
none_dropped n (letter ∷ letters) = omega (arith, none_dropped n letters)

module _ {L : Type 0} (holds : L → List Entry → List ℕ → Type 0) (stands : List Entry → List ℕ → Type 0) (broken : L → Bool) (law : (log : L) (es : List Entry) (c : List ℕ) → holds log es c → stands es c) where
  pub asked : (node : Node L) (n : Situation) (v1 v2 : View) (letters : List (ℕ × List ℕ)) (lost : ℕ) → Knows node n → Tells_bytes v2 → Stored holds node n.history v1 → Sends v1 v2 letters lost
      → Fed holds stands broken node node v1 v2 n (sends letters) (Some (only_lost lost)) true
  asked node n v1 v2 letters lost knows tells stored s =
      let done = sends letters in
      let here : after_all n done ≡ n = stays n letters in
      let all = all_told n letters in
      let sent : sent_in n done ≡ letters = ap sent_of all ∙ sent_of-letters letters in
      let said : said_in n done ≡ [] = ap said_of all ∙ said_of-letters letters in
      let many : length (tellings n done) ≡ length letters = ap (λ (l : List Telling). length l) all ∙ many_letters letters in
      let same_said : v2.outside.said ≡ v1.outside.said = ap (λ (o : Outside). o.said) s.kept in
      let reopens = λ (c : List ℕ) (left : v1.may_leave c). subst (λ (m : Situation). ReopensTo stands m.history c) (sym here) (stored_reopens holds stands law node n v1 knows.valid stored c left) in
      record {
        done = done;
        failed = [];
        undone = [];
        parts = sym (append-nil (done ++ []) ∙ append-nil done);
        one = refl;
        whole = λ is. refl;
        knows = λ is. subst (λ (m : Situation). Knows node m) (sym here) knows;
        stored = λ is. subst (λ (m : Situation). Stored holds node m.history v2) (sym here)
            (stored_at holds node n.history v1 v2 stored (record { bytes = stored.shows.bytes; told = s.bytes tells ∙ stored.shows.told; reads = stored.shows.reads; images = λ c left. stored.shows.images c (s.images c left) }));
        moments = weakened v1 v2 (λ c k. v1.may_leave c × (k ≤ v1.told + length letters)) (λ c k. IsPrefixSoon stands n done [] v1.told c k)
            (λ c k both. record {
              prefix = whole stands n done v1.told c k (reopens c both.0);
              soon = omega (arith, both.1, many);
            }) s.moments;
        ends = λ c left. whole_has_all stands n done c (reopens c (s.images c left));
        told = told_as v1.told v2.told (length letters) (length (tellings n done) + 0) (omega (arith, many)) s.told;
        lost = lost;
        tried = subst (λ (l : List (ℕ × List ℕ)). Grows v1.outside.tried v2.outside.tried l) (sym sent) s.tried;
        sent = (s.sent.0, subst (λ (l : List (ℕ × List ℕ)). AreSent l s.sent.0 lost) (sym sent) s.sent.1, s.sent.2);
        lost_cause = s.lost_cause;
        said = subst (λ (l : List ℕ). Grows v1.outside.said v2.outside.said l) (sym (ap (flat_map (λ (line : List ℕ). line)) said))
            (subst (λ (o : Option (List ℕ)). Grows v1.outside.said o []) (sym same_said) (grows_none v1.outside.said));
        counted = record { taken = sym (none_taken letters); dropped = sym (none_dropped n letters); lost_is = refl };
      }

-- there are no more Gets than peers
pub few_gets : {L : Type 0} (node : Node L) (n : Situation) (letters : List Letter) (name : List ℕ) → (k : Knows node n) → letters_of letters ≡ gets k.settings.settings name → length letters ≤ most_peers
few_gets node n letters name k are =
    let st = k.settings.settings in
    let read = settings_read n.history st k.settings.present in
    omega (arith, read.few_peers, ap (λ (l : List (ℕ × List ℕ)). length l) are, length_map {B = ℕ × List ℕ} (λ (l : Letter). (l.to, l.frame)) letters, length_map (get_by st.id name) st.peers)
