-- How the reading of a file goes on, and which chunks were given of it.
use Rattle.std.proofs.Common.{◌≡◌, inl, inr, ⊎_elim, ℕ, ◌+◌, ◌-◌, ◌^◌, ◌<◌, ◌≤◌, Bool, true, false, not, ◌&&◌, ◌==◌, cond, List, [], ◌∷◌, ◌++◌, length, take, drop, map, sum, Option, Some, None, IfSome, is_some, Result, Ok, Err, OnErr, refl, sym, ◌∙◌, ap, subst, arith, append-nil, append_assoc, length-append}
use Rattle.std.proofs.lemmas.Bool.{false≢true, eqb-true, cases_lt}
use Rattle.std.proofs.lemmas.List.{take-append-drop, drop_all, map-append, length-take-le}
use Rattle.std.proofs.lemmas.List.Elements.{All-nil, All-append}
use Rattle.std.proofs.lemmas.List.Sums.{sum_by-cons}
use Rattle.std.proofs.lemmas.Grind.{flat_map-append}
use Rattle.std.proofs.Math.Seq.{drop-append_seam}
use Rattle.psb_station.specs.Calls.{Grows}
use Rattle.psb_station.specs.Folder.{FolderView, FolderCall, Content, File, Reading, Tells_content, found}
use Rattle.psb_station.proofs.Spans.{at_some, same_some, told_before}
use Rattle.rolling_chunks.specs.Cuts.{longest, cuts_after, standing_cuts, last_after, lengths_after, standing_lengths, chunk_lengths}
use Rattle.rolling_chunks.specs.Pushes.{progress, last_length}
use Rattle.rolling_chunks.specs.Spans.{spans_from, spans}
use Rattle.rolling_chunks.specs.Laws.{part}
use Rattle.rolling_chunks.specs.declared.spans.Span.{Span}
use Rattle.rolling_chunks.proofs.TextCuts.{last_standing, cuts-left, cuts-whole, cuts_stand}
use Rattle.snapshots.specs.declared.unread.TheConstants.{PIECE_BYTES}
use Rattle.snapshots.specs.declared.reading.ChunkReader.{ChunkReader}
use Rattle.snapshots.specs.Gathering.{Gathered, begun, nothing_gathered, Takes, Finishes}
use Rattle.snapshots.specs.Pieces.{ReadsNext}
use Rattle.snapshots.specs.Reading.{joined, IsBehind, HasFile, ReadsBehind, Refills, Reads, EndedReadersGaveAll, ReadersGiveFirstChunks, ReadersReadOnePieceAhead}
use Rattle.snapshots.specs.Tickets.{chunks_of}

-- ---- chunks are known by their lengths and by what they are joined

joined_push : (chunks : List (List ℕ)) (chunk : List ℕ) → joined (chunks ++ chunk ∷ []) ≡ joined chunks ++ chunk
joined_push chunks chunk = flat_map-append (λ (c : List ℕ). c) chunks (chunk ∷ []) ∙ ap (λ (l : List ℕ). joined chunks ++ l) (append-nil chunk)

sum_joined : (chunks : List (List ℕ)) → sum (map length chunks) ≡ length (joined chunks)
sum_joined [] = refl
sum_joined (c ∷ chunks) = omega (arith, sum_joined chunks, length-append c (joined chunks), sum_by-cons (λ (n : ℕ). n) (length c) (map length chunks))

first_part : (front chunk rest : List ℕ) → take (length chunk) (drop (length front) (front ++ (chunk ++ rest))) ≡ chunk
first_part front chunk rest = ap (take (length chunk)) (drop-append_seam front (chunk ++ rest)) ∙ front_of chunk rest
  where
    front_of : (a b : List ℕ) → take (length a) (a ++ b) ≡ a
    front_of [] b = refl
    front_of (x ∷ a) b = ap (λ (l : List ℕ). x ∷ l) (front_of a b)

-- cut off at these lengths, a text that begins with them gives them
parts_from : (front : List ℕ) (chunks : List (List ℕ)) (more : List ℕ) → map (part (front ++ (joined chunks ++ more))) (spans_from (length front) (map length chunks)) ≡ chunks
unfolding spans_from
parts_from front [] more = refl
parts_from front (c ∷ chunks) more =
    let behind = joined chunks ++ more in
    let text = front ++ (c ++ behind) in
    let grown : (front ++ c) ++ behind ≡ text = append_assoc front c behind in
    let rest : map (part text) (spans_from (length (front ++ c)) (map length chunks)) ≡ chunks =
    subst (λ (t : List ℕ). map (part t) (spans_from (length (front ++ c)) (map length chunks)) ≡ chunks) grown (parts_from (front ++ c) chunks more) in
    ap (λ (l : List ℕ). map (part (front ++ l)) (spans_from (length front) (map length (c ∷ chunks)))) (append_assoc c (joined chunks) more)
    ∙ ap (λ (l : List ℕ). l ∷ map (part text) (spans_from (length front + length c) (map length chunks))) (first_part front c behind)
    ∙ ap (λ (n : ℕ). c ∷ map (part text) (spans_from n (map length chunks))) (sym (length-append front c))
    ∙ ap (λ (l : List (List ℕ)). c ∷ l) rest

pub decided : (text : List ℕ) (chunks : List (List ℕ)) → joined chunks ≡ text → map length chunks ≡ chunk_lengths longest text → chunks ≡ chunks_of text
unfolding spans
decided text chunks all lengths =
    sym (parts_from [] chunks [])
    ∙ ap (λ (t : List ℕ). map (part t) (spans_from 0 (map length chunks))) (append-nil (joined chunks) ∙ all)
    ∙ ap (λ (ns : List ℕ). map (part text) (spans_from 0 ns)) lengths

-- ---- in the middle of a chunk

-- what the reader knows of the text that it read, of which it gave these chunks
pub record IsMidway (g : Gathered) (unread : List ℕ) (at : ℕ) (text : List ℕ) (chunks : List (List ℕ)) : Type 0 where
  pub at_is : at ≡ length text
  pub text_is : text ≡ (joined chunks ++ begun g) ++ unread
  pub few : length unread ≤ PIECE_BYTES
  pub follows : g.cutter ≡ progress longest (joined chunks ++ begun g)
  pub lengths : map length chunks ≡ standing_lengths longest (joined chunks ++ begun g)

pub midway_start : (r : ChunkReader) (text : List ℕ) (chunks : List (List ℕ)) → IsBehind r text chunks → r.ended ≡ false → IsMidway r.chunk r.unread r.at text chunks
midway_start r text chunks behind goes =
    let b = behind.between goes in
    let none : joined chunks ++ begun r.chunk ≡ joined chunks = ap (λ (l : List ℕ). joined chunks ++ l) b.none_begun ∙ append-nil (joined chunks) in
    record {
      at_is = behind.at;
      text_is = b.text_is ∙ ap (λ (l : List ℕ). l ++ r.unread) (sym none);
      few = b.few;
      follows = b.follows ∙ ap (progress longest) (sym none);
      lengths = b.lengths ∙ ap (standing_lengths longest) (sym none);
    }

-- a piece was read where none was left
pub midway_read : (g : Gathered) (left unread : List ℕ) (at at' : ℕ) (text : List ℕ) (chunks : List (List ℕ)) → IsMidway g left at text chunks → left ≡ [] → at' + length left ≡ at + length unread → length unread ≤ PIECE_BYTES
    → IsMidway g unread at' (text ++ unread) chunks
midway_read g left unread at at' text chunks m none further few = record {
  at_is = omega (arith, m.at_is, further, ap length none, length-append text unread);
  text_is = ap (λ (l : List ℕ). l ++ unread) (m.text_is ∙ ap (λ (l : List ℕ). (joined chunks ++ begun g) ++ l) none ∙ append-nil (joined chunks ++ begun g));
  few = few;
  follows = m.follows;
  lengths = m.lengths;
}

pub midway_kept : (g : Gathered) (left unread : List ℕ) (at at' : ℕ) (text : List ℕ) (chunks : List (List ℕ)) → IsMidway g left at text chunks → unread ≡ left → at' + length left ≡ at + length unread → IsMidway g unread at' text chunks
midway_kept g left unread at at' text chunks m same further = record {
  at_is = omega (arith, m.at_is, further, ap length same);
  text_is = m.text_is ∙ ap (λ (l : List ℕ). (joined chunks ++ begun g) ++ l) (sym same);
  few = omega (arith, m.few, ap length same);
  follows = m.follows;
  lengths = m.lengths;
}

pub begun_more : (g : Gathered) → g.whole ≡ false → begun g ≡ g.bytes
begun_more g more = ap (λ (w : Bool). cond w [] g.bytes) more

begun_none : (g : Gathered) → g.whole ≡ true → begun g ≡ []
begun_none g whole = ap (λ (w : Bool). cond w [] g.bytes) whole

-- bytes go from those unread to the chunk
moved : (front begun taken bytes unread : List ℕ) (count : ℕ) → bytes ≡ begun ++ take count unread → (front ++ begun) ++ unread ≡ (front ++ bytes) ++ drop count unread
moved front begun taken bytes unread count is =
    ap (λ (l : List ℕ). (front ++ begun) ++ l) (sym (take-append-drop count unread))
    ∙ sym (append_assoc (front ++ begun) (take count unread) (drop count unread))
    ∙ ap (λ (l : List ℕ). l ++ drop count unread) (append_assoc front begun (take count unread) ∙ ap (λ (l : List ℕ). front ++ l) (sym is))

fewer : (unread : List ℕ) (count most : ℕ) → count ≤ length unread → length unread ≤ most → length (drop count unread) ≤ most
fewer unread count most within few = omega (arith, ap length (take-append-drop count unread), length-append (take count unread) (drop count unread), few)

pub midway_taken : (g g' : Gathered) (unread : List ℕ) (at count : ℕ) (text : List ℕ) (chunks : List (List ℕ)) → IsMidway g unread at text chunks → Takes g unread count g' → g'.whole ≡ false → IsMidway g' (drop count unread) at text chunks
midway_taken g g' unread at count text chunks m t more =
    let front = joined chunks in
    let taken = take count unread in
    let is : begun g' ≡ begun g ++ taken = begun_more g' more ∙ t.bytes_are in
    let grown : (front ++ begun g) ++ taken ≡ front ++ begun g' = append_assoc front (begun g) taken ∙ ap (λ (l : List ℕ). front ++ l) (sym is) in
    record {
      at_is = m.at_is;
      text_is = m.text_is ∙ moved front (begun g) taken (begun g') unread count is;
      few = fewer unread count PIECE_BYTES t.within m.few;
      follows = t.runs.follows (front ++ begun g) m.follows ∙ ap (progress longest) grown;
      lengths =
          m.lengths
          ∙ sym (t.runs.lengths (front ++ begun g) m.follows ∙ ap (λ (b : Bool). standing_lengths longest (front ++ begun g) ++ last_length b (standing_lengths longest (front ++ begun g)) ((front ++ begun g) ++ taken)) more ∙ append-nil (standing_lengths longest (front ++ begun g)))
          ∙ ap (standing_lengths longest) grown;
    }

-- the length of a chunk is what the cutter counted
counted : (front begun taken bytes lens : List ℕ) → sum lens ≡ length front → bytes ≡ begun ++ taken → length ((front ++ begun) ++ taken) - sum lens ≡ length bytes
counted front begun taken bytes lens all is = omega (arith, all, ap length is, length-append (front ++ begun) taken, length-append front begun, length-append begun taken)

-- the reader gave one chunk more
pub given_whole : (g : Gathered) (r : ChunkReader) (unread : List ℕ) (at count : ℕ) (text : List ℕ) (chunks : List (List ℕ)) → IsMidway g unread at text chunks → Takes g unread count r.chunk → r.chunk.whole ≡ true
    → r.unread ≡ drop count unread → r.at ≡ at → r.ended ≡ false → IsBehind r text (chunks ++ r.chunk.bytes ∷ [])
given_whole g r unread at count text chunks m t whole left same goes =
    let front = joined chunks in
    let taken = take count unread in
    let bytes = r.chunk.bytes in
    let lens = standing_lengths longest (front ++ begun g) in
    let grown : (front ++ begun g) ++ taken ≡ joined (chunks ++ bytes ∷ []) = append_assoc front (begun g) taken ∙ ap (λ (l : List ℕ). front ++ l) (sym t.bytes_are) ∙ sym (joined_push chunks bytes) in
    let sums : sum lens ≡ length front = ap sum (sym m.lengths) ∙ sum_joined chunks in
    record {
      at = same ∙ m.at_is;
      between = λ e. record {
        text_is = m.text_is ∙ moved front (begun g) taken bytes unread count t.bytes_are ∙ ap (λ (l : List ℕ). l ++ drop count unread) (sym (joined_push chunks bytes)) ∙ ap (λ (l : List ℕ). joined (chunks ++ bytes ∷ []) ++ l) (sym left);
        few = omega (arith, ap length left, fewer unread count PIECE_BYTES t.within m.few);
        none_begun = begun_none r.chunk whole;
        follows = t.runs.follows (front ++ begun g) m.follows ∙ ap (progress longest) grown;
        lengths =
            map-append length chunks (bytes ∷ [])
            ∙ ap (λ (ns : List ℕ). ns ++ length bytes ∷ []) m.lengths
            ∙ ap (λ (n : ℕ). lens ++ n ∷ []) (sym (counted front (begun g) taken bytes lens sums t.bytes_are))
            ∙ ap (λ (b : Bool). lens ++ last_length b lens ((front ++ begun g) ++ taken)) (sym whole)
            ∙ sym (t.runs.lengths (front ++ begun g) m.follows)
            ∙ ap (standing_lengths longest) grown;
      };
      all = λ e. absurd (false≢true (sym goes ∙ e));
    }

-- the file ended
whole_text : (g : Gathered) (unread : List ℕ) (at : ℕ) (text : List ℕ) (chunks : List (List ℕ)) → IsMidway g unread at text chunks → unread ≡ [] → joined chunks ++ begun g ≡ text
whole_text g unread at text chunks m none = sym (m.text_is ∙ ap (λ (l : List ℕ). (joined chunks ++ begun g) ++ l) none ∙ append-nil (joined chunks ++ begun g))

all_given : (g g' : Gathered) (unread : List ℕ) (at : ℕ) (text : List ℕ) (chunks : List (List ℕ)) (left : Bool) → IsMidway g unread at text chunks → unread ≡ [] → Finishes g left g' → cond left (chunks ++ g'.bytes ∷ []) chunks ≡ chunks_of text
all_given g g' unread at text chunks true m none f =
    let whole = joined chunks ++ begun g in
    let text_is : whole ≡ text = whole_text g unread at text chunks m none in
    let lens = standing_lengths longest whole in
    let sums : sum lens ≡ length (joined chunks) = ap sum (sym m.lengths) ∙ sum_joined chunks in
    let long : length whole - sum lens ≡ length g'.bytes = omega (arith, sums, ap length f.bytes_are, length-append (joined chunks) (begun g)) in
    decided text (chunks ++ g'.bytes ∷ [])
    (joined_push chunks g'.bytes ∙ ap (λ (l : List ℕ). joined chunks ++ l) f.bytes_are ∙ text_is)
    (map-append length chunks (g'.bytes ∷ []) ∙ ap (λ (ns : List ℕ). ns ++ length g'.bytes ∷ []) m.lengths ∙ ap (λ (n : ℕ). lens ++ n ∷ []) (sym long) ∙ sym (f.lengths whole m.follows) ∙ ap (chunk_lengths longest) text_is)
all_given g g' unread at text chunks false m none f =
    let whole = joined chunks ++ begun g in
    let text_is : whole ≡ text = whole_text g unread at text chunks m none in
    decided text chunks
    (sym (append-nil (joined chunks)) ∙ ap (λ (l : List ℕ). joined chunks ++ l) (sym (f.none refl)) ∙ text_is)
    (m.lengths ∙ sym (append-nil (standing_lengths longest whole)) ∙ sym (f.lengths whole m.follows) ∙ ap (chunk_lengths longest) text_is)

pub given_all : (g : Gathered) (r : ChunkReader) (unread : List ℕ) (at : ℕ) (text : List ℕ) (chunks : List (List ℕ)) (left : Bool) → IsMidway g unread at text chunks → unread ≡ [] → Finishes g left r.chunk → r.at ≡ at → r.ended ≡ true
    → IsBehind r text (cond left (chunks ++ r.chunk.bytes ∷ []) chunks)
given_all g r unread at text chunks left m none f same ended = record {
  at = same ∙ m.at_is;
  between = λ e. absurd (false≢true (sym e ∙ ended));
  all = λ e. all_given g r.chunk unread at text chunks left m none f;
}

-- ---- at the start of a file

no_lengths : standing_lengths longest [] ≡ []
unfolding standing_cuts cuts_after lengths_after
no_lengths = refl

pub at_start : (r : ChunkReader) → r.chunk ≡ nothing_gathered → r.unread ≡ [] → r.at ≡ 0 → r.ended ≡ false → IsBehind r [] []
at_start r new none zero_at goes = record {
  at = zero_at;
  between = λ e. record {
    text_is = sym none;
    few = omega (arith, ap length none);
    none_begun = ap begun new;
    follows = ap (λ (g : Gathered). g.cutter) new;
    lengths = sym no_lengths;
  };
  all = λ e. absurd (false≢true (sym goes ∙ e));
}

-- ---- what a caller takes of it

-- an ended reader gave all chunks
pub ended_gave_all : EndedReadersGaveAll
ended_gave_all r text chunks behind ended = behind.all ended

-- it reads at most a piece ahead
pub read_ahead : ReadersReadOnePieceAhead
read_ahead r text chunks behind goes =
    let b = behind.between goes in
    omega (arith, behind.at, ap length b.text_is, length-append (joined chunks) r.unread, b.few)

-- ---- what was read is the file's

not_ended : (l : List ℕ) → false ≡ true → l ≡ []
not_ended l e = absurd (false≢true e)

pub read_none : (path : List ℕ) (v : FolderView) (text : List ℕ) → ReadsBehind path v text [] false
read_none path v text = record {
  next = λ content bytes rest told file is. (rest, is ∙ ap (λ (l : List ℕ). l ++ rest) (sym (append-nil text)), not_ended rest);
  file = inl (refl, refl);
}

-- no call was made since
pub read_still : (path : List ℕ) (v1 v2 : FolderView) (text more : List ℕ) → (Tells_content v2 → v2.content ≡ v1.content) → ReadsBehind path v1 text more false → ReadsBehind path v2 text more false
read_still path v1 v2 text more same read = record {
  next = λ content bytes rest told file is. read.next content bytes rest (told_before v1.content v2.content same content told) file is;
  file = ⊎_elim (λ none. inl none) (λ file. inr (file_still v1.content v2.content same file)) read.file;
}
  where
    file_still : (o1 o2 : Option Content) → (is_some o2 ≡ true → o2 ≡ o1) → IfSome o1 (λ content. HasFile content path) → IfSome o2 (λ content. HasFile content path)
    file_still o1 None same file = tt
    file_still o1 (Some c) same file = at_some o1 (λ content. HasFile content path) c file (sym (same refl))

same_file : (content : Content) (path a b : List ℕ) → found content path ≡ Some (File a) → found content path ≡ Some (File b) → a ≡ b
same_file content path a b first second = let same : File a ≡ File b = same_some (found content path) (File a) (File b) first second in cc

has_file : (o : Option Content) (path : List ℕ) (at : ℕ) (piece : List ℕ) → IfSome o (λ content. ReadsNext content path at piece) → IfSome o (λ content. HasFile content path)
has_file None path at piece read = tt
has_file (Some content) path at piece read = (read.bytes, read.file)

no_length : (l : List ℕ) → length l ≤ 0 → l ≡ []
no_length [] none = refl
no_length (x ∷ l) none = absurd (omega (arith, none))

-- a piece behind what was read before
piece_behind : (bytes before behind piece : List ℕ) (at : ℕ) → bytes ≡ before ++ behind → at ≡ length before → piece ≡ take (length piece) (drop at bytes) → bytes ≡ (before ++ piece) ++ drop (length piece) behind
piece_behind bytes before behind piece at is place read =
    let rest : drop at bytes ≡ behind = ap (λ (n : ℕ). drop n bytes) place ∙ ap (drop (length before)) is ∙ drop-append_seam before behind in
    let front : piece ≡ take (length piece) behind = read ∙ ap (take (length piece)) rest in
    is
    ∙ ap (λ (l : List ℕ). before ++ l) (sym (take-append-drop (length piece) behind))
    ∙ ap (λ (l : List ℕ). before ++ (l ++ drop (length piece) behind)) (sym front)
    ∙ sym (append_assoc before piece (drop (length piece) behind))

none_behind : (bytes before behind : List ℕ) (at n : ℕ) → bytes ≡ before ++ behind → at ≡ length before → length bytes ≤ at → drop n behind ≡ []
none_behind bytes before behind at n is place most =
    let none : behind ≡ [] = no_length behind (omega (arith, ap length is, length-append before behind, place, most)) in
    ap (drop n) none ∙ drop_all n [] (omega arith)

pub read_then : (path : List ℕ) (v1 v2 : FolderView) (text more piece : List ℕ) (at : ℕ) (ends : Bool) → ReadsBehind path v1 text more false → (Tells_content v2 → v2.content ≡ v1.content) → at ≡ length (text ++ more)
    → IfSome v2.content (λ content. ReadsNext content path at piece) → (ends ≡ true → piece ≡ []) → ReadsBehind path v2 text (more ++ piece) ends
read_then path v1 v2 text more piece at ends read same place next last = record {
  next = λ content bytes rest told file is.
      let before = read.next content bytes rest (told_before v1.content v2.content same content told) file is in
      let now = at_some v2.content (λ content. ReadsNext content path at piece) content next told in
      let bytes_are = same_file content path now.bytes bytes now.file file in
      let behind = before.0 in
      let here : piece ≡ take (length piece) (drop at bytes) = now.piece_is ∙ ap (λ (l : List ℕ). take (length piece) (drop at l)) bytes_are in (
        drop (length piece) behind,
        piece_behind bytes (text ++ more) behind piece at before.1 place here ∙ ap (λ (l : List ℕ). l ++ drop (length piece) behind) (append_assoc text more piece),
        λ e. none_behind bytes (text ++ more) behind at (length piece) before.1 place (omega (arith, now.none_at_end (last e), ap length bytes_are)),
      );
  file = inr (has_file v2.content path at piece next);
}

-- what holds anyway holds of an error
pub on_err : {T E : Type 0} (r : Result T E) (P : Type 0) → P → OnErr r P
on_err (Ok x) P p = tt
on_err (Err e) P p = p

-- ---- runs of reads

grows_none : {A : Type 0} (o : Option (List A)) → Grows o o []
grows_none None = tt
grows_none (Some l) = (l, refl, sym (append-nil l))

grows_then : {A : Type 0} (a b c : Option (List A)) (xs ys : List A) → Grows a b xs → Grows b c ys → Grows a c (xs ++ ys)
grows_then a b None xs ys first second = tt
grows_then a None (Some n) xs ys first second = let is : None ≡ Some second.0 = second.1 in absurd (cc)
grows_then a (Some m) (Some n) xs ys first second =
    let same : m ≡ second.0 = cc (second.1) in
    (first.0, first.1, second.2 ∙ ap (λ l. l ++ ys) (sym same ∙ first.2) ∙ append_assoc first.0 xs ys)

pub reads_none : (path : List ℕ) (v : FolderView) → Reads path v v
reads_none path v = record {
  calls = [];
  tried = grows_none v.folder_calls;
  alone = All-nil (λ (call : FolderCall). call ≡ Reading path);
  no_fall = omega arith;
  content = λ tells. refl;
  tells = λ tells. tells;
}

pub reads_then : (path : List ℕ) (v0 v1 v2 : FolderView) → Reads path v0 v1 → Reads path v1 v2 → Reads path v0 v2
reads_then path v0 v1 v2 first second = record {
  calls = first.calls ++ second.calls;
  tried = grows_then v0.folder_calls v1.folder_calls v2.folder_calls first.calls second.calls first.tried second.tried;
  alone = All-append (λ (call : FolderCall). call ≡ Reading path) first.calls second.calls first.alone second.alone;
  no_fall = omega (arith, first.no_fall, second.no_fall);
  content = λ tells. second.content tells ∙ first.content (second.tells tells);
  tells = λ tells. first.tells (second.tells tells);
}

-- ---- the loop

-- where it stands in the text of its file
pub record Gone (path : List ℕ) (v : FolderView) (r : ChunkReader) (text : List ℕ) (chunks : List (List ℕ)) : Type 0 where
  pub more : List ℕ
  pub midway : IsMidway r.chunk r.unread r.at (text ++ more) chunks
  pub read : ReadsBehind path v text more false

-- what the loop keeps
pub record SoFar (path : List ℕ) (v0 v1 : FolderView) (r0 r1 : ChunkReader) : Type 0 where
  pub reads : Reads path v0 v1
  pub steady : v1.folder_faults ≡ v0.folder_faults
  pub goes : r1.ended ≡ false
  pub place : r1.at + length (begun r0.chunk) ≤ r0.at + length (begun r1.chunk) + length r1.unread
  pub short : length (begun r1.chunk) ≤ length (begun r0.chunk) + longest
  pub near : r1.at ≤ r0.at + longest + PIECE_BYTES
  pub gone : (text : List ℕ) (chunks : List (List ℕ)) → IsBehind r0 text chunks → Gone path v1 r1 text chunks

pub so_far_none : (path : List ℕ) (v : FolderView) (r : ChunkReader) → r.ended ≡ false → SoFar path v v r r
so_far_none path v r goes = record {
  reads = reads_none path v;
  steady = refl;
  goes = goes;
  place = omega arith;
  short = omega arith;
  near = omega arith;
  gone = λ text chunks behind. record {
    more = [];
    midway = subst (λ (t : List ℕ). IsMidway r.chunk r.unread r.at t chunks) (sym (append-nil text)) (midway_start r text chunks behind goes);
    read = read_none path v text;
  };
}

pub refill_fits : (path : List ℕ) (v0 v1 : FolderView) (r0 r1 : ChunkReader) → SoFar path v0 v1 r0 r1 → r0.at < 2 ^ 62 → r1.unread ≡ [] → r1.at < 2 ^ 63
refill_fits path v0 v1 r0 r1 s low none = omega (arith, s.place, s.short, low, ap length none)

-- what is known after a refill
midway_came : (path : List ℕ) (v1 v2 : FolderView) (r1 r2 : ChunkReader) (text more : List ℕ) (chunks : List (List ℕ)) (some : Bool) → IsMidway r1.chunk r1.unread r1.at (text ++ more) chunks → r2.chunk ≡ r1.chunk
    → Refills path v1 v2 r1.unread r1.at r2.unread r2.at some → r1.unread ≡ [] → IsMidway r2.chunk r2.unread r2.at (text ++ (more ++ r2.unread)) chunks
midway_came path v1 v2 r1 r2 text more chunks some m same refill none =
    let few : length r2.unread ≤ PIECE_BYTES = refill.few (omega (arith, m.few)) in
    subst (λ (t : List ℕ). IsMidway r2.chunk r2.unread r2.at t chunks) (append_assoc text more r2.unread)
    (subst (λ (k : Gathered). IsMidway k r2.unread r2.at ((text ++ more) ++ r2.unread) chunks) (sym same)
    (midway_read r1.chunk r1.unread r2.unread r1.at r2.at (text ++ more) chunks m none refill.at_is few))

gone_refilled : (path : List ℕ) (v1 v2 : FolderView) (r1 r2 : ChunkReader) (text : List ℕ) (chunks : List (List ℕ)) (some : Bool) → Gone path v1 r1 text chunks → r2.chunk ≡ r1.chunk → Reads path v1 v2
    → Refills path v1 v2 r1.unread r1.at r2.unread r2.at some → Gone path v2 r2 text chunks
gone_refilled path v1 v2 r1 r2 text chunks some g same reads refill =
    ⊎_elim
    (λ kept. record {
      more = g.more;
      midway = subst (λ (k : Gathered). IsMidway k r2.unread r2.at (text ++ g.more) chunks) (sym same) (midway_kept r1.chunk r1.unread r2.unread r1.at r2.at (text ++ g.more) chunks g.midway kept.0 refill.at_is);
      read = read_still path v1 v2 text g.more reads.content g.read;
    })
    (λ came. record {
      more = g.more ++ r2.unread;
      midway = midway_came path v1 v2 r1 r2 text g.more chunks some g.midway same refill came.0;
      read = read_then path v1 v2 text g.more r2.unread r1.at false g.read reads.content g.midway.at_is came.1 (not_ended r2.unread);
    })
    refill.came

-- it reads where nothing is left alone
pub near_after : (path : List ℕ) (v0 v1 v2 : FolderView) (r0 r1 r2 : ChunkReader) (some : Bool) → SoFar path v0 v1 r0 r1 → Refills path v1 v2 r1.unread r1.at r2.unread r2.at some → r2.at ≤ r0.at + longest + PIECE_BYTES
near_after path v0 v1 v2 r0 r1 r2 some s refill =
    ⊎_elim
    (λ kept. omega (arith, s.near, refill.at_is, ap length kept.0))
    (λ came.
    let few : length r2.unread ≤ PIECE_BYTES = refill.few (omega (arith, ap length came.0)) in
    omega (arith, s.place, s.short, refill.at_is, few, ap length came.0))
    refill.came

pub so_far_refilled : (path : List ℕ) (v0 v1 v2 : FolderView) (r0 r1 r2 : ChunkReader) (some : Bool) → SoFar path v0 v1 r0 r1 → r2.chunk ≡ r1.chunk → r2.ended ≡ r1.ended → Reads path v1 v2 → v2.folder_faults ≡ v1.folder_faults
    → Refills path v1 v2 r1.unread r1.at r2.unread r2.at some → SoFar path v0 v2 r0 r2
so_far_refilled path v0 v1 v2 r0 r1 r2 some s same same' reads steady refill =
    let begun_is : length (begun r2.chunk) ≡ length (begun r1.chunk) = ap (λ (k : Gathered). length (begun k)) same in
    record {
      reads = reads_then path v0 v1 v2 s.reads reads;
      steady = steady ∙ s.steady;
      goes = same' ∙ s.goes;
      place = omega (arith, s.place, refill.at_is, begun_is);
      short = omega (arith, s.short, begun_is);
      near = near_after path v0 v1 v2 r0 r1 r2 some s refill;
      gone = λ text chunks behind. gone_refilled path v1 v2 r1 r2 text chunks some (s.gone text chunks behind) same reads refill;
    }

pub so_far_taken : (path : List ℕ) (v0 v1 : FolderView) (r0 r1 r2 : ChunkReader) (count : ℕ) → SoFar path v0 v1 r0 r1 → Takes r1.chunk r1.unread count r2.chunk → r2.unread ≡ drop count r1.unread → r2.chunk.whole ≡ false
    → length r2.chunk.bytes ≤ longest → r2.at ≡ r1.at → r2.ended ≡ r1.ended → SoFar path v0 v1 r0 r2
so_far_taken path v0 v1 r0 r1 r2 count s t left more short same same' =
    let begun_is : begun r2.chunk ≡ begun r1.chunk ++ take count r1.unread = begun_more r2.chunk more ∙ t.bytes_are in
    let parts : length (take count r1.unread) + length (drop count r1.unread) ≡ length r1.unread = omega (arith, ap length (take-append-drop count r1.unread), length-append (take count r1.unread) (drop count r1.unread)) in
    record {
      reads = s.reads;
      steady = s.steady;
      goes = same' ∙ s.goes;
      place = omega (arith, s.place, same, ap length begun_is, length-append (begun r1.chunk) (take count r1.unread), ap length left, parts);
      short = omega (arith, short, ap length (begun_more r2.chunk more));
      near = omega (arith, s.near, same);
      gone = λ text chunks behind.
          let g = s.gone text chunks behind in
          record {
            more = g.more;
            midway =
                subst (λ (n : ℕ). IsMidway r2.chunk r2.unread n (text ++ g.more) chunks) (sym same)
                (subst (λ (l : List ℕ). IsMidway r2.chunk l r1.at (text ++ g.more) chunks) (sym left)
                (midway_taken r1.chunk r2.chunk r1.unread r1.at count (text ++ g.more) chunks g.midway t more));
            read = g.read;
          };
    }

-- something was taken of what is there
pub goes_on : (r1 r2 : ChunkReader) (count : ℕ) → 1 ≤ length r1.unread → Takes r1.chunk r1.unread count r2.chunk → r2.chunk.whole ≡ false → length (begun r1.chunk) < length (begun r2.chunk)
goes_on r1 r2 count some t more =
    let begun_is : begun r2.chunk ≡ begun r1.chunk ++ take count r1.unread = begun_more r2.chunk more ∙ t.bytes_are in
    omega (arith, some, t.all more, length-take-le count r1.unread t.within, ap length begun_is, length-append (begun r1.chunk) (take count r1.unread))

pub some_there : (unread : List ℕ) (some : Bool) → some ≡ not (length unread == 0) → some ≡ true → 1 ≤ length unread
some_there [] some is h = absurd (false≢true (sym is ∙ h))
some_there (x ∷ unread) some is h = omega arith

pub none_there : (unread : List ℕ) (some : Bool) → some ≡ not (length unread == 0) → some ≡ false → unread ≡ []
none_there unread some is h = no_length unread (at (length unread == 0) refl)
  where
    at : (b : Bool) → (length unread == 0) ≡ b → length unread ≤ 0
    at true e = omega (arith, eqb-true (length unread) 0 e)
    at false e = absurd (false≢true (sym h ∙ is ∙ ap not e))

-- ---- what a call that gave a chunk, or none, knows

pub ended_already : (path : List ℕ) (v : FolderView) (r : ChunkReader) (text : List ℕ) (chunks : List (List ℕ)) → r.ended ≡ true → IsBehind r text chunks
    → (more : List ℕ) × IsBehind r (text ++ more) chunks × ReadsBehind path v text more (r.ended && not r.ended)
ended_already path v r text chunks ended behind = (
  [],
  subst (λ (t : List ℕ). IsBehind r t chunks) (sym (append-nil text)) behind,
  subst (λ (b : Bool). ReadsBehind path v text [] (b && not b)) (sym ended) (read_none path v text),
)

pub chunk_given : (path : List ℕ) (v0 v : FolderView) (r0 r1 r : ChunkReader) (count : ℕ) → SoFar path v0 v r0 r1 → Takes r1.chunk r1.unread count r.chunk → r.chunk.whole ≡ true → r.unread ≡ drop count r1.unread → r.at ≡ r1.at → r.ended ≡ r1.ended
    → (text : List ℕ) (chunks : List (List ℕ)) → IsBehind r0 text chunks → (more : List ℕ) × IsBehind r (text ++ more) (chunks ++ r.chunk.bytes ∷ []) × ReadsBehind path v text more (r.ended && not r0.ended)
chunk_given path v0 v r0 r1 r count s t whole left same same' text chunks behind =
    let g = s.gone text chunks behind in
    let goes : r.ended ≡ false = same' ∙ s.goes in (
      g.more,
      given_whole r1.chunk r r1.unread r1.at count (text ++ g.more) chunks g.midway t whole left same goes,
      subst (λ (b : Bool). ReadsBehind path v text g.more (b && not r0.ended)) (sym goes) g.read,
    )

pub file_given : (path : List ℕ) (v0 v1 v2 : FolderView) (r0 r1 r2 r : ChunkReader) (some left : Bool) → SoFar path v0 v1 r0 r1 → r2.chunk ≡ r1.chunk → Reads path v1 v2 → Refills path v1 v2 r1.unread r1.at r2.unread r2.at some → some ≡ false
    → Finishes r2.chunk left r.chunk → r.at ≡ r2.at → r.ended ≡ true → r0.ended ≡ false
    → (text : List ℕ) (chunks : List (List ℕ)) → IsBehind r0 text chunks → (more : List ℕ) × IsBehind r (text ++ more) (cond left (chunks ++ r.chunk.bytes ∷ []) chunks) × ReadsBehind path v2 text more (r.ended && not r0.ended)
file_given path v0 v1 v2 r0 r1 r2 r some left s same reads refill no_more f same' ended goes text chunks behind =
    let none : r2.unread ≡ [] = none_there r2.unread some refill.some_is no_more in
    let g = s.gone text chunks behind in
    ⊎_elim
    (λ kept. absurd (omega (arith, kept.1, ap length kept.0, ap length none)))
    (λ came. (
      g.more ++ r2.unread,
      given_all r2.chunk r r2.unread r2.at (text ++ (g.more ++ r2.unread)) chunks left (midway_came path v1 v2 r1 r2 text g.more chunks some g.midway same refill came.0) none f same' ended,
      subst (λ (b : Bool). ReadsBehind path v2 text (g.more ++ r2.unread) (b && not r0.ended)) (sym ended)
          (subst (λ (b : Bool). ReadsBehind path v2 text (g.more ++ r2.unread) (not b)) (sym goes)
          (read_then path v1 v2 text g.more r2.unread r1.at true g.read reads.content g.midway.at_is came.1 (λ e. none))),
    ))
    refill.came

-- ---- the first chunks

-- the lengths up to some of the places are the first of them
lengths_front : (c : ℕ) (xs ys : List ℕ) → lengths_after c (xs ++ ys) ≡ lengths_after c xs ++ lengths_after (last_after c xs) ys
unfolding lengths_after last_after
lengths_front c [] ys = refl
lengths_front c (x ∷ xs) ys = ap (λ (ns : List ℕ). (x - c) ∷ ns) (lengths_front x xs ys)

spans_front : (start : ℕ) (xs ys : List ℕ) → (rest : List Span) × (spans_from start (xs ++ ys) ≡ spans_from start xs ++ rest)
unfolding spans_from
spans_front start [] ys = (spans_from start ys, refl)
spans_front start (x ∷ xs) ys =
    let s : Span = record { start = start; len = x } in
    let front = spans_front (start + x) xs ys in
    (front.0, ap (λ (ss : List Span). s ∷ ss) front.1)

-- the chunks that stand are the first of a text, however it goes on
stand_first : (text more : List ℕ) → (rest : List ℕ) × (chunk_lengths longest (text ++ more) ≡ standing_lengths longest text ++ rest)
stand_first text [] =
    elim (cases_lt (last_standing longest text) (length text)) [
      | inl left ↦ (
        lengths_after (last_standing longest text) (length text ∷ []),
        ap (chunk_lengths longest) (append-nil text) ∙ ap (lengths_after 0) (cuts-left longest text left) ∙ lengths_front 0 (standing_cuts longest text) (length text ∷ []),
      )
      | inr none ↦ ([], ap (chunk_lengths longest) (append-nil text) ∙ ap (lengths_after 0) (cuts-whole longest text none) ∙ sym (append-nil (standing_lengths longest text)))
    ]
stand_first text (x ∷ more) =
    let cuts = cuts_stand longest text (x ∷ more) (omega arith) in
    (lengths_after (last_standing longest text) cuts.0, ap (lengths_after 0) cuts.1 ∙ lengths_front 0 (standing_cuts longest text) cuts.0)

first_chunks : (chunks : List (List ℕ)) (more : List ℕ) → map length chunks ≡ standing_lengths longest (joined chunks) → (others : List (List ℕ)) × (chunks_of (joined chunks ++ more) ≡ chunks ++ others)
unfolding spans
first_chunks chunks more lengths =
    let text = joined chunks ++ more in
    let stand = stand_first (joined chunks) more in
    let front = spans_front 0 (map length chunks) stand.0 in (
      map (part text) front.0,
      ap (λ (ns : List ℕ). map (part text) (spans_from 0 ns)) (stand.1 ∙ ap (λ (ns : List ℕ). ns ++ stand.0) (sym lengths))
          ∙ ap (map (part text)) front.1
          ∙ map-append (part text) (spans_from 0 (map length chunks)) front.0
          ∙ ap (λ (l : List (List ℕ)). l ++ map (part text) front.0) (parts_from [] chunks more),
    )

-- the chunks that were given are the first of the file
pub first_given : ReadersGiveFirstChunks
first_given r text chunks behind bytes rest is ends = at r.ended refl
  where
    at : (ended : Bool) → r.ended ≡ ended → (more : List (List ℕ)) × (chunks_of bytes ≡ chunks ++ more)
    at true e =
        let whole : bytes ≡ text = is ∙ ap (λ (l : List ℕ). text ++ l) (ends e) ∙ append-nil text in
        ([], ap chunks_of whole ∙ sym (behind.all e) ∙ sym (append-nil chunks))
    at false e =
        let b = behind.between e in
        let whole : bytes ≡ joined chunks ++ (r.unread ++ rest) = is ∙ ap (λ (l : List ℕ). l ++ rest) b.text_is ∙ append_assoc (joined chunks) r.unread rest in
        let first = first_chunks chunks (r.unread ++ rest) b.lengths in
        (first.0, ap chunks_of whole ∙ first.1)
