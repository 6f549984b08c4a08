-- Honest answers go on being told; a lie ends it.
use Rattle.std.proofs.Common.{◌≡◌, ◌≢◌, if◌then◌else◌, ◌<◌, ◌-◌, ◌==◌, nat_le, ℕ, min, Bool, true, false, List, [], ◌++◌, length, take, drop, Option, Some, None, refl, sym, ◌∙◌, ap, arith, length-take, length-drop}
use Rattle.std.specs.Bool.{Decides}
use Rattle.std.specs.Option.{option_map}
use Rattle.psb_station.specs.Calls.{written}
use Rattle.std.specs.FinMap.{get, insert}
use Rattle.std.proofs.lemmas.Bool.{le-leb, eq-eqb}
use Rattle.std.proofs.lemmas.Bool.Decides.{Decides-like, Decides-and, Decides-eqb}
use Rattle.std.proofs.lemmas.List.{take_min}
use Rattle.std.proofs.lemmas.Slice.Eq.{bytes_eq-Decides}
use Rattle.psb_station.specs.Folder.{Content, Stored, Folder, File, plain, parent, found}
use Rattle.psb_station.proofs.PathText.{by_cases}
use Rattle.psb_host.specs.StationEvents.{StationEvent, Measured, Read, Wrote, WasCut, Synced, Answered, JoinedAt, Sent, Said}
use Rattle.psb_host.specs.FolderEvents.{FolderEvent, Listed, NotKept, Piece, MadeFolder, MadeFile, Added}
use Rattle.psb_host.specs.HonestStation.{where_so, reads_so, went_down, unless_short, cut_to, bytes_after}
use Rattle.psb_host.specs.HonestFolder.{is_folder, where_holds, lists_so, piece_so, made, appended, added, after_call}
use Rattle.psb_host.specs.Laws.{FileGoesOn, FolderGoesOn, EndsAtALie}
use Rattle.psb_host.proofs.ListTest.{Decides-lists}
use Rattle.psb_host.proofs.PieceTest.{Decides-piece}

refuted : {P : Type 0} (b : Bool) → Decides b P → ¬ P → b ≡ false
refuted true d no_one = absurd (no_one (d.0 refl))
refuted false d no_one = refl

where_told : (test : List ℕ → Bool) (b : List ℕ) → test b ≡ true → where_so test (Some b) ≡ Some b
where_told test b passes = rw passes refl

where_untold : (test : List ℕ → Bool) (b : List ℕ) → test b ≡ false → where_so test (Some b) ≡ None
where_untold test b fails = rw fails refl

-- a read of a file with these bytes gives what stands there
decides_reads : (at n : ℕ) (came b : List ℕ) → Decides (reads_so at n came b) (came ≡ take n (drop at b))
decides_reads at n came b =
    Decides-like (reads_so at n came b)
    (λ both. both.1 ∙ ap (λ (k : ℕ). take k (drop at b)) both.0 ∙ ap (λ (k : ℕ). take (min n k) (drop at b)) (sym (length-drop at b)) ∙ take_min n (drop at b))
    (λ is. let count : length came ≡ min n (length b - at) = omega (arith, ap (λ (l : List ℕ). length l) is, length-take n (drop at b), length-drop at b) in
    (count, is ∙ sym (take_min n (drop at b)) ∙ ap (λ (k : ℕ). take (min n k) (drop at b)) (length-drop at b) ∙ ap (λ (k : ℕ). take k (drop at b)) (sym count)))
    (Decides-and _ _ (Decides-eqb (length came) (min n (length b - at))) (bytes_eq-Decides came (take (length came) (drop at b))))

whole_told : {A : Type 0} (ok : Bool) (n : ℕ) (given : List ℕ) (o : Option A) → (ok ≡ true → n ≡ length given) → unless_short ok n given o ≡ o
whole_told false n given o whole = refl
whole_told true n given o whole = rw (eq-eqb n (length given) (whole refl)) refl

short_untold : {A : Type 0} (n : ℕ) (given : List ℕ) (o : Option A) → n ≢ length given → unless_short true n given o ≡ None
short_untold n given o short = rw (refuted (n == length given) (Decides-eqb n (length given)) short) refl

pub file_goes_on : FileGoesOn
file_goes_on = record {
  len = λ usable b. where_told (λ c. length b == length c) b (eq-eqb (length b) (length b) refl);
  read = λ usable at n b. where_told (reads_so at n (take n (drop at b))) b ((decides_reads at n (take n (drop at b)) b).1 refl);
  write = λ usable at n ok given b le whole. rw (whole_told ok n given (Some b) whole, le-leb at (length b) le) refl;
  cut = λ usable n b le. rw (le-leb n (length b) le) refl;
  sync = λ b. refl;
  no_len = λ usable n b. refl;
  no_read = λ usable at n came b. refl;
  no_cut = λ usable n b le. rw (le-leb n (length b) le) refl;
  no_sync = λ usable b. refl;
}

kept : (test : Content → Bool) (c : Content) → test c ≡ true → where_holds test (Some c) ≡ Some c
kept test c passes = rw passes refl

lost : (test : Content → Bool) (c : Content) → test c ≡ false → where_holds test (Some c) ≡ None
lost test c fails = rw fails refl

new_made : (path : List ℕ) (s : Stored) (c : Content) → get c (parent (plain path)) ≡ Some Folder → found c path ≡ None → made true path s (Some c) ≡ Some (insert c (plain path) s)
new_made path s c above free = rw (above, free) refl

no_made : (path : List ℕ) (s : Stored) (o : Option Content) → made false path s o ≡ o
no_made path s o = refl

file_grown : (path bytes piece : List ℕ) (c : Content) → found c path ≡ Some (File bytes) → added path piece c (found c path) ≡ Some (insert c (plain path) (File (bytes ++ piece)))
file_grown path bytes piece c is = rw is refl

some_grown : (path bytes given : List ℕ) (n : ℕ) (c : Content) → 0 < n → found c path ≡ Some (File bytes) → appended false n path given (Some c) ≡ Some (insert c (plain path) (File (bytes ++ take n given)))
some_grown path bytes given n c some is = let test : (n == 0) ≡ false = refuted (n == 0) (Decides-eqb n 0) (λ e. absurd (omega (arith, e, some))) in rw (test, is) refl

none_added : (path given : List ℕ) (o : Option Content) → appended false 0 path given o ≡ o
none_added path given None = refl
none_added path given (Some c) = refl

pub folder_goes_on : FolderGoesOn
folder_goes_on = record {
  list = λ path items c is. kept (lists_so path items) c ((Decides-lists path items c).1 is);
  piece = λ path at n into c fits is. kept (λ d. piece_so at (length into) (take n into) (found d path)) c ((Decides-piece path at n into c fits).1 is);
  folder = λ path c above free. new_made path Folder c above free;
  file = λ path c above free. new_made path (File []) c above free;
  append = λ path bytes given c is. rw (eq-eqb (length given) (length given) refl) (file_grown path bytes given c is);
  some_added = λ path bytes given n c some is. some_grown path bytes given n c some is;
  no_list = λ path o. refl;
  no_piece = λ path came at n o. refl;
  no_folder = λ path o. refl;
  no_file = λ path o. refl;
  no_append = λ path given o. none_added path given o;
}

cut_none : (ok : Bool) (n : ℕ) → cut_to ok n None ≡ None
cut_none true n = refl
cut_none false n = refl

no_bytes : (usable : Bool) (e : StationEvent) → bytes_after usable e None ≡ None
no_bytes usable (Measured ok n) = refl
no_bytes usable (Read at n ok came) = refl
no_bytes usable (Wrote at n true given) = none_short (n == length given)
  where
    none_short : (is : Bool) → option_map (written at given) (where_so (λ b. nat_le at (length b)) (if is then None else None)) ≡ None
    none_short true = refl
    none_short false = refl
no_bytes usable (Wrote at n false given) = refl
no_bytes usable (WasCut n ok) = cut_none ok n
no_bytes true (Synced true) = refl
no_bytes false (Synced true) = refl
no_bytes usable (Synced false) = refl
no_bytes usable (Answered answer) = refl
no_bytes usable (JoinedAt id address) = refl
no_bytes usable (Sent to ok frame) = refl
no_bytes usable (Said ok text) = refl

not_new : (path bytes : List ℕ) (s : Stored) (c : Content) → found c path ≡ Some (File bytes) → made true path s (Some c) ≡ None
not_new path bytes s c is = by_cases (is_folder (get c (parent (plain path)))) (λ k. rw (k, is) refl) (λ k. rw k refl)

no_content : (e : FolderEvent) → after_call e None ≡ None
no_content (Listed path (Some items)) = refl
no_content (Listed path None) = refl
no_content (NotKept path) = refl
no_content (Piece path at n true came) = refl
no_content (Piece path at n false came) = refl
no_content (MadeFolder path true) = refl
no_content (MadeFolder path false) = refl
no_content (MadeFile path true) = refl
no_content (MadeFile path false) = refl
no_content (Added path n true given) = none_short (n == length given)
  where
    none_short : (is : Bool) → appended true n path given (if is then None else None) ≡ None
    none_short true = refl
    none_short false = refl
no_content (Added path n false given) = refl

pub ends_at_a_lie : EndsAtALie
ends_at_a_lie = record {
  len = λ usable n b other. where_untold (λ c. n == length c) b (refuted (n == length b) (Decides-eqb n (length b)) other);
  read = λ usable at n came b other. where_untold (reads_so at n came) b (refuted (reads_so at n came b) (decides_reads at n came b) other);
  sync = λ b. refl;
  list = λ path items c other. lost (lists_so path items) c (refuted (lists_so path items c) (Decides-lists path items c) other);
  piece = λ path at n into c fits other. lost (λ d. piece_so at (length into) (take n into) (found d path)) c (refuted (piece_so at (length into) (take n into) (found c path)) (Decides-piece path at n into c fits) other);
  write = λ usable at n given b short. rw (short_untold n given (Some b) short) refl;
  append = λ path given n c short. rw (short_untold n given (Some c) short) refl;
  made = λ path c bytes is. not_new path bytes (File []) c is;
  file = no_bytes;
  folder = no_content;
}
