-- What a reader of chunks gave of its file, and what its calls read.
use Rattle.std.specs.Prelude.{◌≡◌, ◌⊎◌, ℕ, ◌+◌, ◌≤◌, Bool, true, false, not, ◌==◌, List, [], ◌++◌, length, map, flat_map, All, IfSome, Some}
use Rattle.rolling_chunks.specs.Cuts.{longest, standing_lengths}
use Rattle.rolling_chunks.specs.Pushes.{progress}
use Rattle.psb_station.specs.Calls.{Grows}
use Rattle.psb_station.specs.Folder.{FolderView, FolderCall, Content, File, Reading, Tells_content, found}
use Rattle.snapshots.specs.declared.unread.TheConstants.{PIECE_BYTES}
use Rattle.snapshots.specs.declared.reading.ChunkReader.{ChunkReader}
use Rattle.snapshots.specs.Gathering.{begun}
use Rattle.snapshots.specs.Pieces.{ReadsNext}
use Rattle.snapshots.specs.Tickets.{chunks_of}

-- the bytes of chunks that stand side by side
abbrev pub joined : List (List ℕ) → List ℕ
joined chunks = flat_map (λ (chunk : List ℕ). chunk) chunks

-- these chunks were given of the text that was read, and at most a piece was not given yet
pub record IsBetween (r : ChunkReader) (text : List ℕ) (chunks : List (List ℕ)) : Type 0 where
  pub text_is : text ≡ joined chunks ++ r.unread
  pub few : length r.unread ≤ PIECE_BYTES
  pub none_begun : begun r.chunk ≡ []
  pub follows : r.chunk.cutter ≡ progress longest (joined chunks)
  pub lengths : map length chunks ≡ standing_lengths longest (joined chunks)

-- the reader read this text of its file, and gave these chunks of it: all of them once it ended
pub record IsBehind (r : ChunkReader) (text : List ℕ) (chunks : List (List ℕ)) : Type 0 where
  pub at : r.at ≡ length text
  pub between : r.ended ≡ false → IsBetween r text chunks
  pub all : r.ended ≡ true → chunks ≡ chunks_of text

-- a file stands at the path
abbrev pub HasFile : Content → List ℕ → Type 0
HasFile content path = (bytes : List ℕ) × (found content path ≡ Some (File bytes))

-- What was read is what the file has behind the text, and it has no more where it ended. Where nothing was
-- read it did not end.
pub record ReadsBehind (path : List ℕ) (v : FolderView) (text more : List ℕ) (ends : Bool) : Type 0 where
  pub next : (content : Content) (bytes rest : List ℕ) → v.content ≡ Some content → found content path ≡ Some (File bytes) → bytes ≡ text ++ rest
      → (behind : List ℕ) × (bytes ≡ (text ++ more) ++ behind) × (ends ≡ true → behind ≡ [])
  pub file : ((more ≡ []) × (ends ≡ false)) ⊎ IfSome v.content (λ content. HasFile content path)

-- A piece was read where none was left, and there are bytes now: those of the file that follow, none at its end
-- alone. Where some were left nothing was read.
pub record Refills (path : List ℕ) (old new : FolderView) (left : List ℕ) (at : ℕ) (unread : List ℕ) (at' : ℕ) (some : Bool) : Type 0 where
  pub some_is : some ≡ not (length unread == 0)
  pub few : length left ≤ PIECE_BYTES → length unread ≤ PIECE_BYTES
  pub at_is : at' + length left ≡ at + length unread
  pub came : ((unread ≡ left) × (1 ≤ length left)) ⊎ ((left ≡ []) × IfSome new.content (λ content. ReadsNext content path at unread))

-- nothing was done but to read the file at the path
pub record Reads (path : List ℕ) (old new : FolderView) : Type 0 where
  pub calls : List FolderCall
  pub tried : Grows old.folder_calls new.folder_calls calls
  pub alone : All (λ (call : FolderCall). call ≡ Reading path) calls
  pub no_fall : old.folder_faults ≤ new.folder_faults
  pub content : Tells_content new → new.content ≡ old.content
  pub tells : Tells_content new → Tells_content old

-- ---- laws

-- the chunks that an ended reader gave are those of its file
abbrev pub EndedReadersGaveAll : Type 0
EndedReadersGaveAll = (r : ChunkReader) (text : List ℕ) (chunks : List (List ℕ)) → IsBehind r text chunks → r.ended ≡ true → chunks ≡ chunks_of text

-- The chunks that a reader gave are the first of those of its file: of whatever bytes begin with the text that was
-- read, and are that text where the reader ended.
abbrev pub ReadersGiveFirstChunks : Type 0
ReadersGiveFirstChunks = (r : ChunkReader) (text : List ℕ) (chunks : List (List ℕ)) → IsBehind r text chunks → (bytes behind : List ℕ) → bytes ≡ text ++ behind → (r.ended ≡ true → behind ≡ [])
    → (more : List (List ℕ)) × (chunks_of bytes ≡ chunks ++ more)

-- until it ends it is at most a piece ahead of the chunks that it gave
abbrev pub ReadersReadOnePieceAhead : Type 0
ReadersReadOnePieceAhead = (r : ChunkReader) (text : List ℕ) (chunks : List (List ℕ)) → IsBehind r text chunks → r.ended ≡ false → r.at ≤ length (joined chunks) + PIECE_BYTES
