-- What a cycle adds to the files, piece by piece, and to the frames.
use Rattle.std.proofs.Common.{◌≡◌, ℕ, ◌+◌, ◌<◌, ◌≤◌, length, get_or, drop, ◌==◌, not, Bool, true, false, Option, Some, None, List, [], ◌∷◌, ◌++◌, map, refl, sym, ap, ◌∙◌, arith}
use Rattle.std.specs.Prelude.{if◌then◌else◌, Result, Ok, Err}
use Rattle.std.specs.Result.{IsOk, OnOk}
use Rattle.std.specs.Option.{ForSome, option_map, is_some}
use Rattle.std.specs.Borrow.{Bor}
use Rattle.std.proofs.lemmas.List.{at_drop_more, at_drop_all}
use Rattle.std.proofs.lemmas.Bool.Decides.{nat_tests}
use Rattle.model_tree.specs.Tree.{Word, Tree}
use Rattle.run_model.specs.Run.{PortRecord, Cycle}
use Rattle.text_forms.specs.Held.{y_at}
use Rattle.text_forms.specs.declared.records.YRecord.{YRecord}
use Rattle.frame_draw.specs.Drawing.{frame_of}
use Rattle.frame_draw.specs.Turns.{is_other}
use Rattle.room_edge.specs.Outside.{Outside}
use Rattle.run_loop.specs.declared.outputs.Output.TheVariants.{Log, Out, Frames}
use Rattle.run_loop.specs.declared.outputs.Unwritten.{Unwritten}
use Rattle.run_loop.specs.declared.outputs.Unwritten.TheVariants.{Memory}
use Rattle.asked_words.specs.Shown.{text_of_name}
use Rattle.run_loop.specs.Texts.{FileNames}
use Rattle.run_loop.specs.Order.{Piece, piece_of, one_piece}
use Rattle.run_loop.specs.Pieces.{lines_of, cycle_pieces}
use Rattle.run_loop.specs.Showing.{Showing, with_taken, shown_of, took, plain, showing_after_instant, ended_before, after_cycle, frame_before, last_frame, is_begun_before, BeginsAt}
use Rattle.run_loop.specs.Written.{AddsAll, Falls, Writes}
use Rattle.run_loop.proofs.Adding.{all_both, all_as, fell_at_once, falls_after, falls_before, falls_as, all_fell}

-- ---- what records show

-- records with the time of their cycle are those of the cycle
pub plain_back : (t : ℕ) (rs : List PortRecord) → map plain (map (y_at t) rs) ≡ rs
plain_back t [] = refl
plain_back t (r ∷ rs) = ap (λ (qs : List PortRecord). r ∷ qs) (plain_back t rs)

-- what a cycle gave is taken
pub taken_cycle : (c : Cycle) (at : ℕ) (given : List YRecord) (w : Option Showing) → c.time ≡ at → given ≡ map (y_at c.time) c.y
    → option_map (took at (map plain given)) (option_map (ended_before at) w) ≡ option_map (after_cycle c) w
taken_cycle c at given None time is = refl
taken_cycle c at given (Some w) time is =
    let records : map plain given ≡ c.y = ap (map plain) is ∙ plain_back c.time c.y in
    ap (λ (x : Showing). Some x)
    (ap (λ rs. took at rs (ended_before at w)) records ∙ ap (λ t. took t c.y (ended_before t w)) (sym time))

same_instant : (o : Option ℕ) (at : ℕ) → is_other o at ≡ false → ForSome o (λ t. t ≡ at)
same_instant None at e = λ x q. absurd (cc)
same_instant (Some t) at e = λ x q. let same : t ≡ x = cc in sym same ∙ equal t at e
  where
    equal : (t at : ℕ) → not (t == at) ≡ false → t ≡ at
    equal t at e = grind (arith, nat_tests)

-- where an instant before is over, this one may begin
pub may_begin : (at : ℕ) (w : Option Showing) → BeginsAt at (option_map (ended_before at) w)
may_begin at None = tt
may_begin at (Some w) = by (is_other w.drawing.begun at) refl
  where
    by : (b : Bool) → is_other w.drawing.begun at ≡ b → ForSome (if b then showing_after_instant w else w).drawing.begun (λ t. t ≡ at)
    by true e = λ x q. absurd (cc)
    by false e = same_instant w.drawing.begun at e

-- where an instant before is over, its frame is the last one
pub frame_over : (at : ℕ) (w : Option Showing) → is_begun_before at w ≡ true → last_frame w ≡ frame_before at w
frame_over at None e = refl
frame_over at (Some w) e = sym (ap (λ b. if b then frame_of w.drawing else []) e)

-- where none is over, there is no frame
pub no_frame : (at : ℕ) (w : Option Showing) → is_begun_before at w ≡ false → [] ≡ frame_before at w
no_frame at None e = refl
no_frame at (Some w) e = sym (ap (λ b. if b then frame_of w.drawing else []) e)

-- it is over
pub is_over : (at : ℕ) (w : Option Showing) → is_begun_before at w ≡ true → option_map showing_after_instant w ≡ option_map (ended_before at) w
is_over at None e = refl
is_over at (Some w) e = ap (λ (x : Showing). Some x) (sym (ap (λ b. if b then showing_after_instant w else w) e))

-- none is over
pub none_over : (at : ℕ) (w : Option Showing) → is_begun_before at w ≡ false → w ≡ option_map (ended_before at) w
none_over at None e = refl
none_over at (Some w) e = ap (λ (x : Showing). Some x) (sym (ap (λ b. if b then showing_after_instant w else w) e))

-- ---- calls that may fail

-- what holds at all
pub on_ok_so : {T E P : Type 0} (r : Result T E) → P → OnOk r P
on_ok_so (Ok x) p = p
on_ok_so (Err e) p = tt

-- what holds where a call before went well, without which this one doesn't
pub on_ok_after : {T E U F : Type 0} (P : Type 0) (q : Result T E) (r : Result U F) → OnOk r (IsOk q) → OnOk q P → OnOk r P
on_ok_after P (Ok x) (Ok y) is p = p
on_ok_after P (Err e) (Ok y) is p = absurd (cc)
on_ok_after P q (Err f) is p = tt

-- a name that is left out has no text
pub no_name : (name : Option (Bor Word)) → is_some name ≡ false → text_of_name name ≡ None
no_name None e = refl
no_name (Some n) e = absurd (cc)

-- ---- the three pieces of a cycle

module _ (n : FileNames) (tree : Tree) (letters : List ℕ) (w : Option Showing) (c : Cycle) (at : ℕ) (time : c.time ≡ at) where
  abbrev frame : List Piece
  frame = one_piece Frames (frame_before at w)

  abbrev lines : List Piece
  lines = one_piece Log (lines_of tree letters c Log)

  abbrev outputs : List Piece
  outputs = one_piece Out (lines_of tree letters c Out)

  pieces : frame ++ lines ++ outputs ≡ cycle_pieces tree letters w c
  pieces = λ i. piece_of Frames (frame_before (sym time i) w) ∷ lines ++ outputs

  pub frame_fell : (why : Unwritten) (old new : Outside) → Falls n why frame old new → Falls n why (cycle_pieces tree letters w c) old new
  frame_fell why old new f = falls_as n why (frame ++ lines ++ outputs) (cycle_pieces tree letters w c) old new pieces (falls_before n why frame (lines ++ outputs) old new f)

  pub lines_fell : (why : Unwritten) (old first new : Outside) → AddsAll n frame old first → Falls n why lines first new → Falls n why (cycle_pieces tree letters w c) old new
  lines_fell why old first new f l =
      falls_as n why (frame ++ lines ++ outputs) (cycle_pieces tree letters w c) old new pieces (falls_after n why frame (lines ++ outputs) old first new f (falls_before n why lines outputs first new l))

  -- whatever became of the lines of the output
  pub cycle_written : (r : Result (Unit {0}) Unwritten) (old first second new : Outside) → AddsAll n frame old first → AddsAll n lines first second → Writes n outputs second new r → Writes n (cycle_pieces tree letters w c) old new r
  cycle_written (Ok x) old first second new f l o =
      all_as n (frame ++ lines ++ outputs) (cycle_pieces tree letters w c) old new pieces (all_both n frame (lines ++ outputs) old first new f (all_both n lines outputs first second new l o))
  cycle_written (Err why) old first second new f l o =
      falls_as n why (frame ++ lines ++ outputs) (cycle_pieces tree letters w c) old new pieces (falls_after n why frame (lines ++ outputs) old first new f (falls_after n why lines outputs first second new l o))

-- memory ran out before anything of a cycle was written
pub none_of_cycle : (n : FileNames) (tree : Tree) (letters : List ℕ) (w : Option Showing) (c : Cycle) (now : Outside) → Falls n Memory (cycle_pieces tree letters w c) now now
none_of_cycle n tree letters w c now =
    fell_at_once n (piece_of Frames (frame_before c.time w)) (piece_of Log (lines_of tree letters c Log) ∷ piece_of Out (lines_of tree letters c Out) ∷ []) now

-- memory ran out after all of it was
pub all_of_cycle : (n : FileNames) (tree : Tree) (letters : List ℕ) (w : Option Showing) (c : Cycle) (old new : Outside) → AddsAll n (cycle_pieces tree letters w c) old new → Falls n Memory (cycle_pieces tree letters w c) old new
all_of_cycle n tree letters w c old new p =
    all_fell n (piece_of Frames (frame_before c.time w) ∷ piece_of Log (lines_of tree letters c Log) ∷ []) (piece_of Out (lines_of tree letters c Out)) old new p

-- ---- records one after another

-- a record more is taken
pub taken_next : (at : ℕ) (given : List YRecord) (i : ℕ) (r : YRecord) (w w' all : Showing) → i < length given → r ≡ get_or given i r → w' ≡ with_taken (shown_of w at (plain r)) w
    → took at (map plain (drop i given)) w ≡ all → took at (map plain (drop (i + 1) given)) w' ≡ all
taken_next at given i r w w' all lt is next so =
    ap (took at (map plain (drop (i + 1) given))) next
    ∙ ap (λ (q : YRecord). took at (map plain (drop (i + 1) given)) (with_taken (shown_of w at (plain q)) w)) is
    ∙ sym (at_drop_more (λ rs. took at (map plain rs) w) given i r lt) ∙ so

pub taken_all : (at : ℕ) (given : List YRecord) (n : ℕ) (w all : Showing) → length given ≤ n → took at (map plain (drop n given)) w ≡ all → w ≡ all
taken_all at given n w all le so = sym (at_drop_all (λ rs. took at (map plain rs) w) given n le) ∙ so
