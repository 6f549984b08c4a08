-- Each outcome of a probe has its reason.
use Rattle.std.proofs.Common.{◌≡◌, inl, inr, ℕ, Bool, true, false, ◌==◌, if◌then◌else◌, List, ◌∷◌, Option, Some, None, Ok, refl, sym, ap, ◌∙◌, subst}
use Rattle.std.specs.List.{list_all}
use Rattle.std.proofs.lemmas.Bool.{and_parts, eqb-true}
use Rattle.psb_bytes.specs.declared.ids.Object.{Object}
use Rattle.psb_bytes.specs.Objects.{name_eq}
use Rattle.psb_settings.specs.declared.settings.Settings.{Settings}
use Rattle.psb_model.specs.State.{row}
use Rattle.psb_model.specs.History.{state}
use Rattle.psb_model.specs.declared.change.Change.{Change}
use Rattle.psb_model.proofs.Own.{name_same}
use Rattle.wire_codec.specs.Frames.{Incoming, read_frame}
use Rattle.wire_codec.specs.declared.frame.Frame.{Frame}
use Rattle.wire_codec.specs.declared.frame.Frame.TheVariants as frame
use Rattle.psb_machine.specs.Letters.{keys_of}
use Rattle.psb_machine.specs.Messages.{Proves, Declines, message_of}
use Rattle.psb_machine.specs.Probing.{chain_over}
use Rattle.psb_machine.specs.OwnProbes.{Run, nonce_of, is_of, own_bytes, passed_by, wrong_by, declined_by, may_list, objects_to_ask, objects_drawn, listed_from}
use Rattle.psb_machine.specs.Deals.{Deal, StoreFresh, StoreSwap, Cancel, PutBack, Replace, replaced, takes, judged, judged_at, facts_at, clashes, reasons, first_that_holds}
use Rattle.psb_machine.specs.declared.deals.Refusal.{Refusal as DealRefusal}
use Rattle.psb_machine.specs.Settling.{Reply, Accepts, Refuses, answers_deal}
use Rattle.psb_machine.specs.Machine.{Situation, Input, Datagram, run_at, react}
use Rattle.psb_machine.proofs.Causes.{caused}
use Rattle.psb_machine.proofs.Made.{settles_by}
use Rattle.psb_machine.proofs.Listing.{all_from, passes_filter}
use Rattle.probe_laws.specs.Just.{IsRead, IsCompared, JustOutcome, OutcomesAreJust}

-- ---- frames

-- the frame that a message is
frame_proves : (f : Frame) (nonce value : List ℕ) → message_of f ≡ Some (Proves nonce value) → f ≡ frame.Proof nonce value
frame_proves (frame.Proof nonce' value') nonce value h = let same : Proves nonce' value' ≡ Proves nonce value = cc (h) in let a : nonce' ≡ nonce = cc (same) in let b : value' ≡ value = cc (same) in ap (λ (l : List ℕ). frame.Proof l value') a ∙ ap (frame.Proof nonce) b
frame_proves _ nonce value h = absurd (cc (h))

frame_declines : (f : Frame) (nonce places : List ℕ) → message_of f ≡ Some (Declines nonce places) → f ≡ frame.Declined nonce places
frame_declines (frame.Declined nonce' places') nonce places h = let same : Declines nonce' places' ≡ Declines nonce places = cc (h) in let a : nonce' ≡ nonce = cc (same) in let b : places' ≡ places = cc (same) in ap (λ (l : List ℕ). frame.Declined l places') a ∙ ap (frame.Declined nonce) b
frame_declines _ nonce places h = absurd (cc (h))

-- the datagram is read as this frame, with this number
read_as : (n : Situation) (settings : Settings) (bytes : List ℕ) (i : Incoming) (number : ℕ) (f : Frame) → (state n.history).settings ≡ Some settings → read_frame settings.id (keys_of settings) bytes ≡ Ok i → i.number ≡ number → i.frame ≡ f → IsRead n.history (Datagram bytes) settings i.from number f
read_as n settings bytes i number f present read same is = record {
  bytes = bytes;
  came = refl;
  present = present;
  reads = read ∙ ap (λ (k : ℕ). Ok (record { from = i.from; number = k; frame = i.frame })) same ∙ ap (λ (g : Frame). Ok (record { from = i.from; number = number; frame = g })) is;
}

-- the number and the nonce are those of the probe that runs
record IsOf (seed : List ℕ) (k : ℕ) (words : List ℕ) (r : Run) : Type 0 where
  number : k ≡ r.asked
  nonce : words ≡ nonce_of seed r.asked

is_its : (seed : List ℕ) (number : ℕ) (nonce : List ℕ) (r : Run) → is_of seed number nonce r ≡ true → IsOf seed number nonce r
is_its seed number nonce r h =
    let a = and_parts (number == r.asked) (name_eq nonce (nonce_of seed r.asked)) h in
    record { number = eqb-true number r.asked a.0; nonce = name_same nonce (nonce_of seed r.asked) a.1 }

-- ---- the reasons

-- of a change that may be none
abbrev Just : Situation → Input → Option Change → Type 0
Just n x None = Unit {0}
Just n x (Some c) = JustOutcome n x c

-- a deal, and a reply to one, is no outcome
just_replaced : (n : Situation) (x : Input) (p number slot : ℕ) (bytes : List ℕ) (home : Option ℕ) → JustOutcome n x (replaced p number slot bytes home)
just_replaced n x p number slot bytes None = tt
just_replaced n x p number slot bytes (Some i) = tt

just_taken : (n : Situation) (x : Input) (issued : ℕ) (new : Bool) (home : Option ℕ) (p number : ℕ) (deal : Deal) → JustOutcome n x (takes issued new home p number deal)
just_taken n x issued new home p number (StoreFresh name bytes) = tt
just_taken n x issued new home p number (StoreSwap name numbers bytes) = tt
just_taken n x issued new home p number (Cancel name numbers) = tt
just_taken n x issued new home p number (PutBack name claims) = tt
just_taken n x issued new home p number (Replace slot bytes) = just_replaced n x p number slot bytes home

just_judged : (n : Situation) (x : Input) (p number : ℕ) (c : Change) (o : Option DealRefusal) → JustOutcome n x c → JustOutcome n x (judged p number c o)
just_judged n x p number c None h = h
just_judged n x p number c (Some r) h = tt

just_deal : (n : Situation) (x : Input) (settings : Settings) (h : List Change) (p number : ℕ) (deal : Deal) → JustOutcome n x (judged_at settings h p number deal)
just_deal n x settings h p number deal =
    let facts = facts_at settings (state h) deal (clashes h deal) in
    just_judged n x p number (takes facts.issued facts.new_body facts.home p number deal) (first_that_holds (reasons facts (state h) p deal)) (just_taken n x facts.issued facts.new_body facts.home p number deal)

just_answer : (n : Situation) (x : Input) (p number : ℕ) (reply : Reply) → JustOutcome n x (answers_deal p number reply)
just_answer n x p number (Accepts claims) = tt
just_answer n x p number (Refuses why detail) = tt

-- a value that was compared
just_value : (n : Situation) (x : Input) (p : ℕ) (value : List ℕ) (r : Run) (b : Bool) → IsCompared n x p r.asked r.objects value b → JustOutcome n x (if b then passed_by p r else wrong_by p value r)
just_value n x p value r true y = record { value = value; answer = y }
just_value n x p value r false y = inr (record { how = refl; answer = y })

compared : (n : Situation) (settings : Settings) (bytes : List ℕ) (i : Incoming) (nonce value own : List ℕ) (r : Run) → (state n.history).settings ≡ Some settings → read_frame settings.id (keys_of settings) bytes ≡ Ok i → message_of i.frame ≡ Some (Proves nonce value)
    → run_at n i.from ≡ Some r → is_of settings.seed i.number nonce r ≡ true → chain_over (own_bytes settings.seed n.history) nonce r.objects ≡ Some own → IsCompared n (Datagram bytes) i.from r.asked r.objects value (name_eq own value)
compared n settings bytes i nonce value own r present read is run of known =
    let its = is_its settings.seed i.number nonce r of in
    record {
      began = r.began;
      runs = run;
      proof = record { settings = settings; read = read_as n settings bytes i r.asked (frame.Proof (nonce_of settings.seed r.asked) value) present read its.number (frame_proves i.frame nonce value is ∙ ap (λ (l : List ℕ). frame.Proof l value) its.nonce) };
      own = own;
      chain = ap (λ (l : List ℕ). chain_over (own_bytes settings.seed n.history) l r.objects) (sym its.nonce) ∙ known;
      compared = refl;
    }

-- each of them may be listed
drawn_may : (n : Situation) (p k : ℕ) → list_all (may_list (row (state n.history) p)) (listed_from k (objects_to_ask (row (state n.history) p))) ≡ true
drawn_may n p k = all_from (may_list (row (state n.history) p)) k (objects_to_ask (row (state n.history) p)) (passes_filter (may_list (row (state n.history) p)) _)

just : (n : Situation) (x : Input) → Just n x (react n x).grown
just n x = caused (Just n x) n x (record {
  none = tt;
  deal = λ settings bytes i deal came present read is fresh. just_deal n x settings n.history i.from i.number deal;
  reply = λ settings bytes i reply c came present read is made. subst (λ (d : Change). JustOutcome n x d) (settles_by (state n.history) i.from i.number reply c made) (just_answer n x i.from i.number reply);
  due = λ settings p key came present keyed is. tt;
  choice = λ settings p key candidates came present keyed chosen. tt;
  propose = λ settings p key what came present keyed idle found. tt;
  late = λ settings p key r came present keyed run over. inl (record { ticks = came; began = r.began; runs = run; late = over; how = refl; got = refl });
  asks = λ settings p key o os came present keyed idle there. record {
    ticks = came;
    settings = settings;
    present = present;
    idle = idle;
    drawn = ap (objects_drawn settings.seed (state n.history)) (sym there);
    may = subst (λ (l : List Object). list_all (may_list (row (state n.history) p)) (objects_drawn settings.seed (state n.history) l) ≡ true) there (drawn_may n p _);
  };
  proof = λ settings bytes i nonce value own r came present read is run of known. subst (λ (y : Input). JustOutcome n y (if name_eq own value then passed_by i.from r else wrong_by i.from value r)) (sym came) (just_value n (Datagram bytes) i.from value r (name_eq own value) (compared n settings bytes i nonce value own r present read is run of known));
  declined = λ settings bytes i nonce places r came present read is run of theirs.
      let its = is_its settings.seed i.number nonce r of in
      subst (λ (y : Input). JustOutcome n y (declined_by i.from places r)) (sym came) (record {
        run = r;
        runs = run;
        number = refl;
        settings = settings;
        read = read_as n settings bytes i r.asked (frame.Declined (nonce_of settings.seed r.asked) places) present read its.number (frame_declines i.frame nonce places is ∙ ap (λ (l : List ℕ). frame.Declined l places) its.nonce);
        within = theirs;
      });
  keep = λ name bytes came lacks same. tt;
  snap = λ note came. tt;
  forget = λ number came has. tt;
})

pub outcomes_are_just : OutcomesAreJust
outcomes_are_just n x c is = subst (Just n x) is (just n x)
