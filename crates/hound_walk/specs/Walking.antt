-- The walk over chunks, step by step: what each call returns, and how many bytes are taken of a file that is rejected.
use Rattle.std.specs.Prelude.{◌≡◌, ℕ, ◌≤◌, List, length, take, drop, ⊤, Option, IfOk, IfErr, ◌-◌, Result, Ok, Err, ◌+◌, ◌++◌, Some, None, true, false, ◌<◌, ◌==◌, ◌⊎◌, slice_range, nat_lt, if◌then◌else◌}
use Rattle.hound_number.specs.{Account, WhereKnown, NoneFailed, OneFailed, number}
use Rattle.hound_walk.specs.declared.cause.HeadError.{HeadError}
use Rattle.hound_walk.specs.declared.cause.HeadError.TheVariants.{Failed, Rejected}
use Rattle.hound_walk.specs.declared.cause.Cause.{Cause}
use Rattle.hound_spec.specs.{greatest_u32, extensible, fmt_fields, padded, fmt_tag, data_tag}
use Rattle.hound_walk.specs.Grammar.{joined, last_spec, chunk_fault, Chunk, IsChunk, chunk_bytes, spec_after, fmt_fault, front_fault, content_fault, Head, Walk, data_fault, fmt_len, IsSoundSpec}
use Rattle.std.specs.Str.{bytes_eq}
use Rattle.hound_spec.specs.declared.spec.WavSpecEx.{WavSpecEx}
use Rattle.hound_walk.specs.declared.chunks.ChunkRead.{ChunkRead}
use Rattle.hound_walk.specs.declared.chunks.ChunkRead.TheVariants.{Data, Other}
use Rattle.hound_walk.specs.declared.chunks.Content.{Content}
use Rattle.hound_walk.specs.declared.chunks.Content.TheVariants as contents
use Rattle.hound_walk.specs.Rejections.{reason_text}
use Rattle.hound_spec.specs.declared.error.Error.{Error}
use Rattle.hound_spec.specs.declared.error.Error.TheVariants as errors
use Rattle.hound_walk.specs.declared.cause.Cause.TheVariants.{Format, Ended, Unsupported}
use Rattle.hound_walk.specs.declared.cause.Reason.{Reason}
use Rattle.hound_walk.specs.declared.cause.Reason.TheVariants.{NoRiffTag, NoWaveTag, NoDataChunk, NoFmtChunk, FmtSize, BitsNot8Or16, ExSize, BitsNot32, ExtensibleSize}

-- the first n bytes were taken
abbrev pub AreTaken : ℕ → List ℕ → List ℕ → Type 0
AreTaken n old new = (n ≤ length old) × (new ≡ drop n old)

-- P for the cause, unless a read failed
abbrev pub Rejects : HeadError → (Cause → Type 0) → Type 0
Rejects (Failed e) P = ⊤
Rejects (Rejected c) P = P c

-- A call that takes n bytes returns `read` of the bytes, unless a read failed.
abbrev pub Gives : {A : Type 0} → Option (List ℕ) → Option (List ℕ) → ℕ → Result A HeadError
    → (List ℕ → Result A Cause) → Type 0
Gives old new n (Ok x) read = WhereKnown old new (λ xs ys. (read xs ≡ Ok x) × (n ≤ length xs) × (ys ≡ drop n xs))
Gives old new n (Err e) read = Rejects e (λ c. WhereKnown old new (λ xs ys. read xs ≡ Err c))

-- a failed read is counted, and nothing else is
abbrev pub CountsFailed : {Kept A : Type 0} → Option (Account Kept) → Option (Account Kept)
    → Result A HeadError → Type 0
CountsFailed old new (Ok x) = NoneFailed old new
CountsFailed old new (Err (Failed e)) = OneFailed old new
CountsFailed old new (Err (Rejected c)) = NoneFailed old new

-- What was taken of xs, of which ys are left, if a chunk was read that began c bytes after the WAVE tag.
abbrev pub ReadsChunk : ℕ → Option WavSpecEx → ChunkRead → List ℕ → List ℕ → Type 0
ReadsChunk c found (Data spec len) xs ys = (found ≡ Some spec) × (c + 8 ≤ greatest_u32)
    × (size : List ℕ) × (length size ≡ 4) × (number size ≡ len) × (xs ≡ data_tag ++ (size ++ ys))
ReadsChunk c found (Other next taken) xs ys = (p : Chunk) × IsChunk p × (c + 8 + padded (number p.size) ≤ greatest_u32)
    × (next ≡ spec_after found p.tag (number p.size) p.content)
    × (taken ≡ c + length (chunk_bytes p)) × (xs ≡ chunk_bytes p ++ ys)

-- The same after the tag and the length.
abbrev pub ReadsContent : ℕ → Option WavSpecEx → List ℕ → ℕ → ChunkRead → List ℕ → List ℕ → Type 0
ReadsContent c found tag len (Data spec n) xs ys = (bytes_eq tag data_tag ≡ true)
    × (found ≡ Some spec) × (n ≡ len) × (xs ≡ ys)
ReadsContent c found tag len (Other next taken) xs ys = (content : List ℕ) × (length content ≡ padded len)
    × (bytes_eq tag data_tag ≡ false)
    × (fmt_fault tag len content ≡ None) × (c + 8 + padded len ≤ greatest_u32)
    × (next ≡ spec_after found tag len content) × (taken ≡ c + 8 + length content)
    × (xs ≡ content ++ ys)

-- The first twelve bytes of xs and whole chunks, and then ys: the spec so far, and how many bytes the chunks take.
pub record Walked (xs ys : List ℕ) (found : Option WavSpecEx) (taken : ℕ) : Type 0 where
  pub chunks : List Chunk
  pub walk : Walk xs chunks ys
  pub found_is : found ≡ last_spec None chunks
  pub taken_is : taken ≡ length (joined chunks)

-- the spec so far, if there is one, can be divided by
abbrev pub IsSoundOption : Option WavSpecEx → Type 0
IsSoundOption None = ⊤
IsSoundOption (Some spec) = IsSoundSpec spec

-- A chunk before the data takes at least its header's eight bytes, and stays within the limit.
abbrev pub IsSoundChunk : ℕ → ChunkRead → Type 0
IsSoundChunk c (Data spec len) = IsSoundSpec spec
IsSoundChunk c (Other next taken) = IsSoundOption next × (c + 8 ≤ taken) × (taken ≤ greatest_u32)

-- how many of these bytes are taken for a fault of the first twelve: those up to the end of a wrong tag, or all at an
-- early end
abbrev pub front_taken : Cause → List ℕ → ℕ
front_taken (Format NoRiffTag) bytes = 4
front_taken (Format NoWaveTag) bytes = 12
front_taken cause bytes = length bytes

-- the first twelve bytes have this fault, and this many were taken for it
abbrev pub RejectsFront : Cause → List ℕ → List ℕ → Type 0
RejectsFront cause old new = (front_fault old ≡ Some cause) × AreTaken (front_taken cause old) old new

-- fewer than twelve bytes were taken
abbrev pub TakesLess : List ℕ → List ℕ → Type 0
TakesLess old new = (n : ℕ) × (n < 12) × AreTaken n old new

-- what was taken of the first twelve bytes at an error: fewer than twelve if a read failed
abbrev pub TakesFront : HeadError → List ℕ → List ℕ → Type 0
TakesFront (Failed e) old new = TakesLess old new
TakesFront (Rejected cause) old new = AreTaken (front_taken cause old) old new

-- what callers get for it: the words of a wrong tag, or an `IoError`, for which fewer than twelve bytes were taken
abbrev pub ReportsFront : Error → List ℕ → List ℕ → Type 0
ReportsFront (errors.IoError e) old new = TakesLess old new
ReportsFront (errors.FormatError s) old new =
    (reason : Reason) × RejectsFront (Format reason) old new × (s.now ≡ reason_text reason)
ReportsFront _ old new = ⊥

-- How many of the n bytes after the header of a chunk are taken for a fault, by the chunk's length and a fmt chunk's
-- format tag: none for what the header decides, all at an early end (WAVEFORMAT, WAVEFORMATEX, WAVEFORMATEXTENSIBLE).
abbrev pub content_taken : ℕ → ℕ → Cause → ℕ → ℕ
content_taken tag len Ended n = n
content_taken tag len (Format NoFmtChunk) n = 0
content_taken tag len (Format NoDataChunk) n = 0
content_taken tag len (Format FmtSize) n = 0
content_taken tag len (Format BitsNot8Or16) n = 18
content_taken tag len (Format ExSize) n = 18
content_taken tag len (Format ExtensibleSize) n = 18
content_taken tag len (Format BitsNot32) n = len
content_taken tag len Unsupported n = if tag == extensible then 40 else 16
content_taken tag len _ n = 16

-- how many of these bytes, the content of a chunk of this length, are taken for a fault
abbrev pub content_takes : ℕ → Cause → List ℕ → ℕ
content_takes len cause bytes = content_taken (fmt_fields bytes).tag len cause (length bytes)

-- How many of these bytes are taken for the fault of a chunk that begins c bytes after the WAVE tag: its header too, if
-- the limit leaves room for one.
abbrev pub chunk_taken : ℕ → Cause → List ℕ → ℕ
chunk_taken c cause bytes =
    if nat_lt greatest_u32 (c + 8) then 0
    else if nat_lt (length bytes) 8 then length bytes
    else 8 + content_taken (number (slice_range bytes 8 10)) (number (slice_range bytes 4 8)) cause
    (length (drop 8 bytes))

-- The bytes have no head for this cause, and this many of them are taken until it is found.
abbrev pub RejectedAfter : List ℕ → Cause → ℕ → Type 0
RejectedAfter bytes cause n = ((front_fault bytes ≡ Some cause) × (n ≡ front_taken cause bytes))
    ⊎ ((chunks : List Chunk) × (rest : List ℕ) × Walk bytes chunks rest
    × (chunk_fault (length (joined chunks)) (last_spec None chunks) rest ≡ Some cause)
    × (n ≡ 12 + length (joined chunks) + chunk_taken (length (joined chunks)) cause rest))

-- The bytes can't be read for this cause, and this many of them are taken until it is found: all up to the data if the
-- data length is at fault.
abbrev pub UnreadableAfter : List ℕ → Cause → ℕ → Type 0
UnreadableAfter bytes cause n = RejectedAfter bytes cause n
    ⊎ ((spec : WavSpecEx) × (len : ℕ) × Head bytes spec len n × (data_fault spec len ≡ Some cause))

-- At an error this many bytes were taken, by its cause and the bytes that were left.
abbrev pub TakesFor : Option (List ℕ) → Option (List ℕ) → (Cause → List ℕ → ℕ) → HeadError → Type 0
TakesFor old new n e = Rejects e (λ c. WhereKnown old new (λ xs ys. AreTaken (n c xs) xs ys))

-- At an error the bytes that were taken are as many as its cause takes.
abbrev pub TakesAll : (List ℕ → Cause → ℕ → Type 0) → Option (List ℕ) → Option (List ℕ) → HeadError → Type 0
TakesAll P old new e = Rejects e (λ c. WhereKnown old new (λ xs ys. (n : ℕ) × P xs c n × AreTaken n xs ys))

-- What a call does with the content of a fmt chunk of this length, after its first sixteen bytes: it returns `read` of
-- what follows, unless a read failed, and takes as many bytes for a cause as the format tag says.
pub record ReadsFormat {R Kept : Type 0} (account : R → Option (Account Kept))
    (left : R → Option (List ℕ)) (tag len : ℕ) (read : List ℕ → Result WavSpecEx Cause)
    (old new : R) (result : Result WavSpecEx HeadError) : Type 0 where
  pub sound : IfOk result IsSoundSpec
  pub failures : CountsFailed (account old) (account new) result
  pub gives : Gives (left old) (left new) (fmt_len len - 16) result (λ xs. read (take (fmt_len len - 16) xs))
  pub taken : IfErr result (TakesFor (left old) (left new) (λ c xs. content_taken tag len c (16 + length xs) - 16))
  pub late : IfErr result (λ e. Rejects e (λ c. (n : ℕ) → 16 ≤ content_taken tag len c (16 + n)))

-- What a part of the walk does: an Ok is sound, and P relates the bytes before and after it; a cause is the fault of
-- the bytes, and n says how many of them it takes; a failed read is counted.
pub record Walks {R Kept A : Type 0} (account : R → Option (Account Kept))
    (left : R → Option (List ℕ)) (IsSound : A → Type 0) (P : A → List ℕ → List ℕ → Type 0)
    (fault : List ℕ → Option Cause) (n : Cause → List ℕ → ℕ) (old new : R)
    (result : Result A HeadError) : Type 0 where
  pub sound : IfOk result IsSound
  pub failures : CountsFailed (account old) (account new) result
  pub ok : IfOk result (λ found. WhereKnown (left old) (left new) (P found))
  pub err : IfErr result (λ e. Rejects e (λ c. WhereKnown (left old) (left new) (λ xs ys. fault xs ≡ Some c)))
  pub taken : IfErr result (TakesFor (left old) (left new) n)

-- what a header says of the content of its chunk, c bytes after the WAVE tag
abbrev pub SaysContent : ℕ → Option WavSpecEx → List ℕ → ℕ → Result Content Cause → Type 0
SaysContent c found tag len (Err cause) = ((rest : List ℕ) → content_fault c found tag len rest ≡ Some cause)
    × ((kind n : ℕ) → content_taken kind len cause n ≡ 0)
SaysContent c found tag len (Ok (contents.Data spec)) = (bytes_eq tag data_tag ≡ true) × (found ≡ Some spec)
SaysContent c found tag len (Ok contents.Fmt) = (bytes_eq tag data_tag ≡ false)
    × (bytes_eq tag fmt_tag ≡ true) × (c + 8 + padded len ≤ greatest_u32)
SaysContent c found tag len (Ok contents.Other) = (bytes_eq tag data_tag ≡ false)
    × (bytes_eq tag fmt_tag ≡ false) × (c + 8 + padded len ≤ greatest_u32)
