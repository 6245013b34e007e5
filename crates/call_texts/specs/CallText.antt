-- The texts of calls: a call's word and the fields of its form, read and written.
use Rattle.std.specs.Prelude.{ℕ, ◌+◌, Bool, true, false, List, [], ◌∷◌, length, Option, Some, None, find, filter, ◌==◌, if◌then◌else◌, codes}
use Rattle.std.specs.List.{join_with_byte}
use Rattle.std.specs.Str.{bytes_eq}
use Rattle.std.specs.Option.{option_map_or}
use Rattle.call_texts.specs.Words.{words_of}
use Rattle.call_texts.specs.Fields.{Fields, AreInRange, words_of_fields, fields_spelled, form_words, has_list, are_numeric}
use Rattle.call_texts.specs.Steps.{◌>>=◌}
use Rattle.gaspi_types.specs.declared.calls.Call.{Call}
use Rattle.gaspi_types.specs.declared.calls.Call.TheVariants as calls
use Rattle.call_texts.specs.declared.fields.Field.{Field}
use Rattle.call_texts.specs.declared.fields.Field.TheVariants.{Number, Value, Bytes, Items, Operation, Elements}
use Rattle.call_texts.specs.declared.call_words.CallWord.{CallWord}
use Rattle.call_texts.specs.declared.call_words.CallWord.TheVariants.{Alloc, Register, Delete, Store, Load, Write, Read, Notify, WriteNotify, ReadNotify, WriteList, WriteListNotify, ReadList, ReadListNotify, Wait, Purge, Qsize, Waitsome, Reset, PassiveSend, PassiveReceive, FetchAdd, CompareSwap, GroupCreate, GroupAdd, GroupDelete, Commit, Barrier, Allreduce, Create, State}

-- how a call's word is spelled, and the form of what follows it, a timeout aside
pub record WordRow : Type 0 where
  pub spelling : List ℕ
  pub form : List Field

-- the spellings are those that GASPI has for the procedures, in short for `segment_alloc`, `segment_register`,
-- `segment_create`, `segment_delete`, `queue_purge`, `queue_size`, `notify_waitsome`, `notify_reset`, `atomic_fetch_add`,
-- `atomic_compare_swap`, `group_commit` and `state_vec_get`; `store` and `load` are own choice
abbrev pub word_row : CallWord → WordRow
-- SEG SIZE
word_row Alloc = record { spelling = codes "alloc"; form = Number ∷ Number ∷ [] }
-- SEG RANK
word_row Register = record { spelling = codes "register"; form = Number ∷ Number ∷ [] }
-- SEG
word_row Delete = record { spelling = codes "delete"; form = Number ∷ [] }
-- SEG OFF HEX
word_row Store = record { spelling = codes "store"; form = Number ∷ Number ∷ Bytes ∷ [] }
-- SEG OFF SIZE
word_row Load = record { spelling = codes "load"; form = Number ∷ Number ∷ Number ∷ [] }
-- SEG OFF RANK RSEG ROFF SIZE QUEUE
word_row Write = record { spelling = codes "write"; form = Number ∷ Number ∷ Number ∷ Number ∷ Number ∷ Number ∷ Number ∷ [] }
-- SEG OFF RANK RSEG ROFF SIZE QUEUE
word_row Read = record { spelling = codes "read"; form = Number ∷ Number ∷ Number ∷ Number ∷ Number ∷ Number ∷ Number ∷ [] }
-- RSEG RANK NOTE VALUE QUEUE
word_row Notify = record { spelling = codes "notify"; form = Number ∷ Number ∷ Number ∷ Value ∷ Number ∷ [] }
-- SEG OFF RANK RSEG ROFF SIZE NOTE VALUE QUEUE
word_row WriteNotify =
    record { spelling = codes "write_notify"; form = Number ∷ Number ∷ Number ∷ Number ∷ Number ∷ Number ∷ Number ∷ Value ∷ Number ∷ [] }
-- SEG OFF RANK RSEG ROFF SIZE NOTE QUEUE
word_row ReadNotify = record { spelling = codes "read_notify"; form = Number ∷ Number ∷ Number ∷ Number ∷ Number ∷ Number ∷ Number ∷ Number ∷ [] }
-- RANK QUEUE N, and N items
word_row WriteList = record { spelling = codes "write_list"; form = Number ∷ Number ∷ Items ∷ [] }
-- RANK QUEUE NSEG NOTE VALUE N, and N items
word_row WriteListNotify =
    record { spelling = codes "write_list_notify"; form = Number ∷ Number ∷ Number ∷ Number ∷ Value ∷ Items ∷ [] }
-- RANK QUEUE N, and N items
word_row ReadList = record { spelling = codes "read_list"; form = Number ∷ Number ∷ Items ∷ [] }
-- RANK QUEUE NSEG NOTE N, and N items
word_row ReadListNotify = record { spelling = codes "read_list_notify"; form = Number ∷ Number ∷ Number ∷ Number ∷ Items ∷ [] }
-- QUEUE
word_row Wait = record { spelling = codes "wait"; form = Number ∷ [] }
-- QUEUE
word_row Purge = record { spelling = codes "purge"; form = Number ∷ [] }
-- QUEUE
word_row Qsize = record { spelling = codes "qsize"; form = Number ∷ [] }
-- SEG BEGIN NUM
word_row Waitsome = record { spelling = codes "waitsome"; form = Number ∷ Number ∷ Number ∷ [] }
-- SEG NOTE
word_row Reset = record { spelling = codes "reset"; form = Number ∷ Number ∷ [] }
-- SEG OFF RANK SIZE
word_row PassiveSend = record { spelling = codes "passive_send"; form = Number ∷ Number ∷ Number ∷ Number ∷ [] }
-- SEG OFF SIZE
word_row PassiveReceive = record { spelling = codes "passive_receive"; form = Number ∷ Number ∷ Number ∷ [] }
-- SEG OFF RANK VALUE
word_row FetchAdd = record { spelling = codes "fetch_add"; form = Number ∷ Number ∷ Number ∷ Number ∷ [] }
-- SEG OFF RANK COMPARATOR NEW
word_row CompareSwap = record { spelling = codes "compare_swap"; form = Number ∷ Number ∷ Number ∷ Number ∷ Number ∷ [] }
-- nothing
word_row GroupCreate = record { spelling = codes "group_create"; form = [] }
-- GROUP RANK
word_row GroupAdd = record { spelling = codes "group_add"; form = Number ∷ Number ∷ [] }
-- GROUP
word_row GroupDelete = record { spelling = codes "group_delete"; form = Number ∷ [] }
-- GROUP
word_row Commit = record { spelling = codes "commit"; form = Number ∷ [] }
-- GROUP
word_row Barrier = record { spelling = codes "barrier"; form = Number ∷ [] }
-- GROUP OP TYPE N, and N elements
word_row Allreduce = record { spelling = codes "allreduce"; form = Number ∷ Operation ∷ Elements ∷ [] }
-- SEG SIZE GROUP
word_row Create = record { spelling = codes "create"; form = Number ∷ Number ∷ Number ∷ [] }
-- nothing
word_row State = record { spelling = codes "state"; form = [] }

-- the spelling of a call's word
abbrev pub spelling_of : CallWord → List ℕ
spelling_of word = (word_row word).spelling

-- the form of a call's word
abbrev pub form_of : CallWord → List Field
form_of word = (word_row word).form

-- the words of calls
abbrev pub call_words : List CallWord
call_words =
    Alloc ∷ Register ∷ Delete ∷ Store ∷ Load ∷ Write ∷ Read ∷ Notify ∷ WriteNotify ∷ ReadNotify ∷ WriteList ∷ WriteListNotify ∷ ReadList ∷ ReadListNotify ∷ Wait ∷ Purge ∷ Qsize ∷ Waitsome ∷ Reset ∷ PassiveSend ∷ PassiveReceive ∷ FetchAdd ∷ CompareSwap ∷ GroupCreate ∷ GroupAdd ∷ GroupDelete ∷ Commit ∷ Barrier ∷ Allreduce ∷ Create ∷ State ∷ []

-- the words whose spelling has that many bytes
unfoldable pub words_of_length : ℕ → List CallWord
words_of_length count = filter (λ call. length (spelling_of call) == count) call_words

-- the call's word with a spelling
unfoldable pub call_word_of : List ℕ → Option CallWord
call_word_of word = find (λ call. bytes_eq (spelling_of call) word) call_words

-- how many of the words behind it spell its fields; none where the number of items or elements is not of the form of a number
abbrev pub arguments_of : CallWord → List (List ℕ) → Option ℕ
arguments_of word words = form_words (form_of word) words

-- whether its call takes a timeout (GASPI: timeouts)
abbrev pub has_timeout : CallWord → Bool
has_timeout Wait = true
has_timeout Waitsome = true
has_timeout PassiveSend = true
has_timeout PassiveReceive = true
has_timeout Commit = true
has_timeout Barrier = true
has_timeout Allreduce = true
has_timeout Create = true
has_timeout word = false

-- whether its form has items or elements
abbrev pub takes_items : CallWord → Bool
takes_items WriteList = true
takes_items WriteListNotify = true
takes_items ReadList = true
takes_items ReadListNotify = true
takes_items Allreduce = true
takes_items word = false

-- how many words follow it: those of its fields, and one for a timeout where its call takes one
abbrev pub given_count : CallWord → List (List ℕ) → Option ℕ
given_count word words = do
  arguments ← arguments_of word words
  Some (arguments + (if has_timeout word then 1 else 0))

-- whether its form has bytes, items or elements, which take memory as they are read
abbrev pub holds_list : CallWord → Bool
holds_list word = has_list (form_of word)

-- Calls and what is spelled.

-- a call's word, and what its fields hold
pub record Spelled : Type 0 where
  pub word : CallWord
  pub fields : Fields (form_of word)

-- the word and the fields of a call; the end of a caller has a word of its own, which no script has
abbrev pub spelled : Call → Option Spelled
spelled (calls.Alloc call) = Some (record { word = Alloc; fields = (call.seg, (call.size, tt)) })
spelled (calls.Register call) = Some (record { word = Register; fields = (call.seg, (call.rank, tt)) })
spelled (calls.Delete call) = Some (record { word = Delete; fields = (call.seg, tt) })
spelled (calls.Store call) = Some (record { word = Store; fields = (call.seg, (call.offset, (call.bytes, tt))) })
spelled (calls.Load call) = Some (record { word = Load; fields = (call.seg, (call.offset, (call.size, tt))) })
spelled (calls.Write call) =
    Some (record { word = Write; fields = (call.seg, (call.offset, (call.rank, (call.rseg, (call.roffset, (call.size, (call.queue, tt))))))) })
spelled (calls.Read call) =
    Some (record { word = Read; fields = (call.seg, (call.offset, (call.rank, (call.rseg, (call.roffset, (call.size, (call.queue, tt))))))) })
spelled (calls.Notify call) = Some (record { word = Notify; fields = (call.rseg, (call.rank, (call.note, (call.value, (call.queue, tt))))) })
spelled (calls.WriteNotify call) =
    Some (record { word = WriteNotify; fields = (call.seg, (call.offset, (call.rank, (call.rseg, (call.roffset, (call.size, (call.note, (call.value, (call.queue, tt))))))))) })
spelled (calls.ReadNotify call) =
    Some (record { word = ReadNotify; fields = (call.seg, (call.offset, (call.rank, (call.rseg, (call.roffset, (call.size, (call.note, (call.queue, tt)))))))) })
spelled (calls.WriteList call) = Some (record { word = WriteList; fields = (call.rank, (call.queue, (call.items, tt))) })
spelled (calls.WriteListNotify call) =
    Some (record { word = WriteListNotify; fields = (call.rank, (call.queue, (call.nseg, (call.note, (call.value, (call.items, tt)))))) })
spelled (calls.ReadList call) = Some (record { word = ReadList; fields = (call.rank, (call.queue, (call.items, tt))) })
spelled (calls.ReadListNotify call) =
    Some (record { word = ReadListNotify; fields = (call.rank, (call.queue, (call.nseg, (call.note, (call.items, tt))))) })
spelled (calls.Wait call) = Some (record { word = Wait; fields = (call.queue, tt) })
spelled (calls.Purge call) = Some (record { word = Purge; fields = (call.queue, tt) })
spelled (calls.Qsize call) = Some (record { word = Qsize; fields = (call.queue, tt) })
spelled (calls.Waitsome call) = Some (record { word = Waitsome; fields = (call.seg, (call.begin, (call.num, tt))) })
spelled (calls.Reset call) = Some (record { word = Reset; fields = (call.seg, (call.note, tt)) })
spelled (calls.PassiveSend call) = Some (record { word = PassiveSend; fields = (call.seg, (call.offset, (call.rank, (call.size, tt)))) })
spelled (calls.PassiveReceive call) = Some (record { word = PassiveReceive; fields = (call.seg, (call.offset, (call.size, tt))) })
spelled (calls.FetchAdd call) = Some (record { word = FetchAdd; fields = (call.seg, (call.offset, (call.rank, (call.value, tt)))) })
spelled (calls.CompareSwap call) =
    Some (record { word = CompareSwap; fields = (call.seg, (call.offset, (call.rank, (call.comparator, (call.new, tt))))) })
spelled calls.GroupCreate = Some (record { word = GroupCreate; fields = tt })
spelled (calls.GroupAdd call) = Some (record { word = GroupAdd; fields = (call.group, (call.rank, tt)) })
spelled (calls.GroupDelete call) = Some (record { word = GroupDelete; fields = (call.group, tt) })
spelled (calls.Commit call) = Some (record { word = Commit; fields = (call.group, tt) })
spelled (calls.Barrier call) = Some (record { word = Barrier; fields = (call.group, tt) })
spelled (calls.Allreduce call) = Some (record { word = Allreduce; fields = (call.group, (call.op, (call.values, tt))) })
spelled (calls.Create call) = Some (record { word = Create; fields = (call.seg, (call.size, (call.group, tt))) })
spelled calls.State = Some (record { word = State; fields = tt })
spelled calls.End = None

-- the call that a word with its fields spells
abbrev pub call_with : (word : CallWord) → Fields (form_of word) → Call
call_with Alloc (seg, (size, end)) = calls.Alloc (record { seg = seg; size = size })
call_with Register (seg, (rank, end)) = calls.Register (record { seg = seg; rank = rank })
call_with Delete (seg, end) = calls.Delete (record { seg = seg })
call_with Store (seg, (offset, (bytes, end))) = calls.Store (record { seg = seg; offset = offset; bytes = bytes })
call_with Load (seg, (offset, (size, end))) = calls.Load (record { seg = seg; offset = offset; size = size })
call_with Write (seg, (offset, (rank, (rseg, (roffset, (size, (queue, end))))))) =
    calls.Write (record { seg = seg; offset = offset; rank = rank; rseg = rseg; roffset = roffset; size = size; queue = queue })
call_with Read (seg, (offset, (rank, (rseg, (roffset, (size, (queue, end))))))) =
    calls.Read (record { seg = seg; offset = offset; rank = rank; rseg = rseg; roffset = roffset; size = size; queue = queue })
call_with Notify (rseg, (rank, (note, (value, (queue, end))))) =
    calls.Notify (record { rseg = rseg; rank = rank; note = note; value = value; queue = queue })
call_with WriteNotify (seg, (offset, (rank, (rseg, (roffset, (size, (note, (value, (queue, end))))))))) =
    calls.WriteNotify (record { seg = seg; offset = offset; rank = rank; rseg = rseg; roffset = roffset; size = size; note = note; value = value; queue = queue })
call_with ReadNotify (seg, (offset, (rank, (rseg, (roffset, (size, (note, (queue, end)))))))) =
    calls.ReadNotify (record { seg = seg; offset = offset; rank = rank; rseg = rseg; roffset = roffset; size = size; note = note; queue = queue })
call_with WriteList (rank, (queue, (items, end))) = calls.WriteList (record { rank = rank; queue = queue; items = items })
call_with WriteListNotify (rank, (queue, (nseg, (note, (value, (items, end)))))) =
    calls.WriteListNotify (record { rank = rank; queue = queue; nseg = nseg; note = note; value = value; items = items })
call_with ReadList (rank, (queue, (items, end))) = calls.ReadList (record { rank = rank; queue = queue; items = items })
call_with ReadListNotify (rank, (queue, (nseg, (note, (items, end))))) =
    calls.ReadListNotify (record { rank = rank; queue = queue; nseg = nseg; note = note; items = items })
call_with Wait (queue, end) = calls.Wait (record { queue = queue })
call_with Purge (queue, end) = calls.Purge (record { queue = queue })
call_with Qsize (queue, end) = calls.Qsize (record { queue = queue })
call_with Waitsome (seg, (begin, (num, end))) = calls.Waitsome (record { seg = seg; begin = begin; num = num })
call_with Reset (seg, (note, end)) = calls.Reset (record { seg = seg; note = note })
call_with PassiveSend (seg, (offset, (rank, (size, end)))) =
    calls.PassiveSend (record { seg = seg; offset = offset; rank = rank; size = size })
call_with PassiveReceive (seg, (offset, (size, end))) = calls.PassiveReceive (record { seg = seg; offset = offset; size = size })
call_with FetchAdd (seg, (offset, (rank, (value, end)))) = calls.FetchAdd (record { seg = seg; offset = offset; rank = rank; value = value })
call_with CompareSwap (seg, (offset, (rank, (comparator, (new, end))))) =
    calls.CompareSwap (record { seg = seg; offset = offset; rank = rank; comparator = comparator; new = new })
call_with GroupCreate end = calls.GroupCreate
call_with GroupAdd (group, (rank, end)) = calls.GroupAdd (record { group = group; rank = rank })
call_with GroupDelete (group, end) = calls.GroupDelete (record { group = group })
call_with Commit (group, end) = calls.Commit (record { group = group })
call_with Barrier (group, end) = calls.Barrier (record { group = group })
call_with Allreduce (group, (op, (values, end))) = calls.Allreduce (record { group = group; op = op; values = values })
call_with Create (seg, (size, (group, end))) = calls.Create (record { seg = seg; size = size; group = group })
call_with State end = calls.State

-- Reading.

-- the call of a word whose fields the words in front spell, and the words behind them
unfoldable pub call_taken : CallWord → List (List ℕ) → Option (Call × List (List ℕ))
call_taken word words = do
  taken ← fields_spelled (form_of word) words
  Some (call_with word taken.0, taken.1)

-- a value behind which no word is left
abbrev pub with_nothing_left : {A : Type 0} → A × List (List ℕ) → Option A
with_nothing_left taken = if length taken.1 == 0 then Some taken.0 else None

-- the call of a word whose fields these words spell, exactly
abbrev pub call_by : CallWord → List (List ℕ) → Option Call
call_by word arguments = do
  taken ← call_taken word arguments
  with_nothing_left taken

-- the call that words spell: a call's word and exactly its fields, without a timeout
unfoldable pub call_of : List (List ℕ) → Option Call
call_of [] = None
call_of (first ∷ arguments) = do
  word ← call_word_of first
  call_by word arguments

-- the word of a caller's end, which no script has
abbrev pub end_word : List ℕ
end_word = codes "end"

abbrev pub is_end_text : List (List ℕ) → Bool
is_end_text [] = false
is_end_text (word ∷ []) = bytes_eq end_word word
is_end_text (word ∷ next ∷ words) = false

-- the call that words spell, where the end of a caller is one
unfoldable pub recorded_call_of : List (List ℕ) → Option Call
recorded_call_of words = if is_end_text words then Some calls.End else call_of words

-- whether reading these words as a call may take memory
abbrev pub takes_memory : List (List ℕ) → Bool
takes_memory [] = false
takes_memory (word ∷ arguments) = option_map_or holds_list (call_word_of word) false

-- the call that a text spells
abbrev pub call_of_text : List ℕ → Option Call
call_of_text text = recorded_call_of (words_of text)

-- Writing.

-- the words of a call's word and its fields, in the one form that is written
abbrev pub words_of_spelled : Option Spelled → List (List ℕ)
words_of_spelled None = end_word ∷ []
words_of_spelled (Some s) = spelling_of s.word ∷ words_of_fields (form_of s.word) s.fields

abbrev pub words_of_call : Call → List (List ℕ)
words_of_call call = words_of_spelled (spelled call)

-- the text of a call: its words, one space between them
abbrev pub call_text : Call → List ℕ
call_text call = join_with_byte 32 (words_of_call call)

abbrev pub IsSpelledInRange : Option Spelled → Type 0
IsSpelledInRange None = Unit {0}
IsSpelledInRange (Some s) = AreInRange (form_of s.word) s.fields

-- the numbers of a call are those of its types
abbrev pub IsWritable : Call → Type 0
IsWritable call = IsSpelledInRange (spelled call)

abbrev pub is_spelled_numeric : Option Spelled → Bool
is_spelled_numeric None = true
is_spelled_numeric (Some s) = are_numeric (form_of s.word)

-- whether each word of a call, behind its own, is a number in decimal
abbrev pub is_call_numeric : Call → Bool
is_call_numeric call = is_spelled_numeric (spelled call)
