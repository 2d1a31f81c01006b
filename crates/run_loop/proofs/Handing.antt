-- Lines of the log that are handed over one after another.
use Rattle.std.proofs.Common.{◌≡◌, List, [], ◌∷◌, ◌++◌, length, get_or, refl, sym, ap, ◌∙◌, subst, append_assoc, append-nil, length-append, arith}
use Rattle.std.specs.Prelude.{Result, Ok, Err}
use Rattle.std.proofs.lemmas.List.{append_cancel_left}
use Rattle.quantity.specs.Bytes.{Bytes}
use Rattle.room_edge.specs.Outside.{Outside}
use Rattle.answer_model.specs.Headline.{Begins}
use Rattle.run_loop.specs.declared.outputs.Output.{Output}
use Rattle.run_loop.specs.declared.outputs.Output.TheVariants.{Log, Out, Frames, State}
use Rattle.run_loop.specs.declared.outputs.Unwritten.{Unwritten}
use Rattle.run_loop.specs.declared.outputs.Unwritten.TheVariants.{Fault, Memory}
use Rattle.run_loop.specs.Texts.{FileNames, Texts, both, only}
use Rattle.run_loop.specs.Order.{Piece, piece_of, one_piece, texts_of}
use Rattle.run_loop.specs.Written.{Adds, AddsAll, Falls, FaultCounted, LacksIn, Writes}
use Rattle.model_tree.specs.Tree.{Leaf, Tree, leaves}
use Rattle.run_model.specs.Run.{Cycle}
use Rattle.text_forms.specs.declared.letter.Letter.{Letter}
use Rattle.text_forms.specs.declared.letter.Letter.TheVariants.{Y, N, X, S}
use Rattle.text_forms.specs.declared.records.Letters.{Letters}
use Rattle.text_forms.specs.declared.records.Records.{Records}
use Rattle.text_forms.specs.Chosen.{letters_of}
use Rattle.text_forms.specs.Held.{Holds}
use Rattle.text_forms.specs.Lines.{log_bytes}
use Rattle.text_forms.specs.RecordTexts.{texts_of_letter, log_text}
use Rattle.text_forms.proofs.Cycles.{log_is}
use Rattle.run_loop.specs.Handing.{Hands}
use Rattle.run_loop.proofs.Adding.{adds_as, adds_both, all_added, fault_after, nothing_added, one_text}

-- two pieces of one file are one
only_both : (file : Output) (a b : Bytes) → both (only file a) (only file b) ≡ only file (a ++ b)
only_both Log a b = refl
only_both Out a b = refl
only_both Frames a b = refl
only_both State a b = refl

all_joined : (n : FileNames) (file : Output) (a b : Bytes) (old mid new : Outside) → AddsAll n (one_piece file a) old mid → AddsAll n (one_piece file b) mid new → AddsAll n (one_piece file (a ++ b)) old new
all_joined n file a b old mid new p q =
    all_added n file (a ++ b) old new
    (adds_as n (both (only file a) (only file b)) (only file (a ++ b)) old new (only_both file a b)
    (adds_both n (only file a) (only file b) old mid new
    (adds_as n (texts_of (one_piece file a)) (only file a) old mid (one_text file a) p.adds)
    (adds_as n (texts_of (one_piece file b)) (only file b) mid new (one_text file b) q.adds)))
    (q.sure ∙ p.sure)

-- ---- what falls short of one piece

-- a beginning of the piece was added
record FallsIn (n : FileNames) (why : Unwritten) (file : Output) (bytes : Bytes) (old new : Outside) : Type 0 where
  begun : Bytes
  begins : Begins begun bytes
  lacks : LacksIn why n (piece_of file bytes) begun
  adds : Adds n (only file begun) old new
  fault : FaultCounted why old new

only_one : (x : Piece) (before : List Piece) (last : Piece) (behind : List Piece) → x ∷ [] ≡ before ++ last ∷ behind → (before ≡ []) × (x ≡ last)
only_one x [] last behind e = (refl, ap (λ (ps : List Piece). get_or ps 0 x) e)
only_one x (y ∷ ys) last behind e =
    let long = ap length e in
    absurd (omega (arith, long, length-append ys (last ∷ behind)))

falls_in : (n : FileNames) (why : Unwritten) (file : Output) (bytes : Bytes) (old new : Outside) → Falls n why (one_piece file bytes) old new → FallsIn n why file bytes old new
falls_in n why file bytes old new f =
    let o = f.order in
    let one = only_one (piece_of file bytes) o.before o.last o.behind o.pieces_are in
    let texts : f.part ≡ only file o.begun = o.texts ∙ (λ i. both (texts_of (one.0 i)) (only (sym one.1 i).file o.begun)) in
    record {
      begun = o.begun;
      begins = subst (λ (p : Piece). Begins o.begun p.bytes) (sym one.1) o.begins;
      lacks = subst (λ (p : Piece). LacksIn why n p o.begun) (sym one.1) f.lacks;
      adds = adds_as n f.part (only file o.begun) old new texts f.adds;
      fault = f.fault;
    }

falls_of : (n : FileNames) (why : Unwritten) (file : Output) (bytes : Bytes) (old new : Outside) → FallsIn n why file bytes old new → Falls n why (one_piece file bytes) old new
falls_of n why file bytes old new f =
    record {
      part = only file f.begun;
      order = record { before = []; last = piece_of file bytes; behind = []; begun = f.begun; pieces_are = refl; begins = f.begins; texts = refl };
      lacks = f.lacks;
      adds = f.adds;
      fault = f.fault;
    }

lacks_after : (why : Unwritten) (n : FileNames) (file : Output) (a b begun : Bytes) → LacksIn why n (piece_of file b) begun → LacksIn why n (piece_of file (a ++ b)) (a ++ begun)
lacks_after (Fault f) n file a b begun (there, same, short) = (there, same, λ e. short (append_cancel_left a begun b e))
lacks_after Memory n file a b begun l = tt

-- what begins a text and more, and is all of it, is all of the text
no_more : (begun b more : Bytes) → Begins begun b → begun ≡ b ++ more → begun ≡ b
no_more begun b more ([], is) e = sym (is ∙ append-nil begun)
no_more begun b more (x ∷ xs, is) e =
    let whole = ap length e in
    let part = ap length is in
    absurd (omega (arith, whole, part, length-append b more, length-append begun (x ∷ xs)))

lacks_before : (why : Unwritten) (n : FileNames) (file : Output) (b more begun : Bytes) → Begins begun b → LacksIn why n (piece_of file b) begun → LacksIn why n (piece_of file (b ++ more)) begun
lacks_before (Fault f) n file b more begun begins (there, same, short) = (there, same, λ e. short (no_more begun b more begins e))
lacks_before Memory n file b more begun begins l = tt

fell_after : (n : FileNames) (why : Unwritten) (file : Output) (a b : Bytes) (old mid new : Outside) → AddsAll n (one_piece file a) old mid → Falls n why (one_piece file b) mid new → Falls n why (one_piece file (a ++ b)) old new
fell_after n why file a b old mid new p f =
    let g = falls_in n why file b mid new f in
    falls_of n why file (a ++ b) old new (record {
      begun = a ++ g.begun;
      begins = (g.begins.0, ap (λ w. a ++ w) g.begins.1 ∙ sym (append_assoc a g.begun g.begins.0));
      lacks = lacks_after why n file a b g.begun g.lacks;
      adds = adds_as n (both (only file a) (only file g.begun)) (only file (a ++ g.begun)) old new (only_both file a g.begun)
          (adds_both n (only file a) (only file g.begun) old mid new (adds_as n (texts_of (one_piece file a)) (only file a) old mid (one_text file a) p.adds) g.adds);
      fault = fault_after why old mid new p.sure g.fault;
    })

-- more was not put
fell_before : (n : FileNames) (why : Unwritten) (file : Output) (b more : Bytes) (old new : Outside) → Falls n why (one_piece file b) old new → Falls n why (one_piece file (b ++ more)) old new
fell_before n why file b more old new f =
    let g = falls_in n why file b old new f in
    falls_of n why file (b ++ more) old new (record {
      begun = g.begun;
      begins = (g.begins.0 ++ more, ap (λ w. w ++ more) g.begins.1 ∙ append_assoc g.begun g.begins.0 more);
      lacks = lacks_before why n file b more g.begun g.begins g.lacks;
      adds = g.adds;
      fault = g.fault;
    })

-- ---- what was handed over, and what is written behind it

-- whatever became of what is behind
all_then : {T : Type 0} (n : FileNames) (handed behind : Bytes) (old mid new : Outside) (r : Result T Unwritten) → AddsAll n (one_piece Log handed) old mid → Writes n (one_piece Log behind) mid new r → Writes n (one_piece Log (handed ++ behind)) old new r
all_then n handed behind old mid new (Ok x) p w = all_joined n Log handed behind old mid new p w
all_then n handed behind old mid new (Err why) p f = fell_after n why Log handed behind old mid new p f

hands_then : {T : Type 0} (n : FileNames) (bytes left more : Bytes) (old mid new : Outside) (r : Result T Unwritten) → Hands n bytes left old mid → Writes n (one_piece Log (left ++ more)) mid new r → Writes n (one_piece Log (bytes ++ more)) old new r
hands_then n bytes left more old mid new r h w =
    let is : bytes ++ more ≡ h.handed ++ (left ++ more) = ap (λ b. b ++ more) h.joined ∙ append_assoc h.handed left more in
    subst (λ (b : Bytes). Writes n (one_piece Log b) old new r) (sym is) (all_then n h.handed (left ++ more) old mid new r h.adds w)

-- nothing is handed over yet
pub hands_none : (n : FileNames) (bytes : Bytes) (now : Outside) → Hands n bytes bytes now now
hands_none n bytes now = record { handed = []; joined = refl; adds = nothing_added n Log now }

-- the lines of a letter, and those of the letters behind it
behind : {T : Type 0} (n : FileNames) (before text left more : Bytes) (old mid new : Outside) (r : Result T Unwritten) → Hands n (before ++ text) left old mid → Writes n (one_piece Log (left ++ more)) mid new r → Writes n (one_piece Log (before ++ (text ++ more))) old new r
behind n before text left more old mid new r h w =
    subst (λ (b : Bytes). Writes n (one_piece Log b) old new r) (append_assoc before text more) (hands_then n (before ++ text) left more old mid new r h w)

-- where a letter falls short, those behind it are not put
fell_here : (n : FileNames) (why : Unwritten) (before text more : Bytes) (old new : Outside) → Falls n why (one_piece Log (before ++ text)) old new → Falls n why (one_piece Log (before ++ (text ++ more))) old new
fell_here n why before text more old new f =
    subst (λ (b : Bytes). Falls n why (one_piece Log b) old new) (append_assoc before text more) (fell_before n why Log (before ++ text) more old new f)

-- the lines of a cycle, letter by letter
letters_in_turn : (ls : List Leaf) (letters : Letters) (r : Records) → log_text ls letters r ≡ texts_of_letter ls letters r Y ++ (texts_of_letter ls letters r N ++ (texts_of_letter ls letters r X ++ texts_of_letter ls letters r S))
unfolding log_text
letters_in_turn ls letters r =
    let y = texts_of_letter ls letters r Y in
    let n = texts_of_letter ls letters r N in
    let x = texts_of_letter ls letters r X in
    let s = texts_of_letter ls letters r S in
    append_assoc (y ++ n) x s ∙ append_assoc y n (x ++ s)

-- ---- the lines of a cycle, of which each letter may be handed over before the next is put

module _ (n : FileNames) (tree : Tree) (letters : Letters) (r : Records) where
  abbrev text : Letter → Bytes
  text letter = texts_of_letter (leaves tree) letters r letter

  abbrev behind_n : Bytes
  behind_n = text X ++ text S

  abbrev behind_y : Bytes
  behind_y = text N ++ behind_n

  -- they begin with what was left before, which is nothing
  pub log_written : {T : Type 0} (c : Cycle) → Holds r c → (before : Bytes) → before ≡ [] → (old new : Outside) (result : Result T Unwritten) → Writes n (one_piece Log (before ++ (text Y ++ behind_y))) old new result → Writes n (one_piece Log (log_bytes tree (letters_of letters) (c ∷ []))) old new result
  log_written c h before none old new result w =
      let is = ap (λ b. b ++ (text Y ++ behind_y)) none ∙ sym (letters_in_turn (leaves tree) letters r) ∙ log_is tree letters r c h in
      subst (λ (b : Bytes). Writes n (one_piece Log b) old new result) is w

  pub y_fell : (why : Unwritten) (b : Bytes) (old new : Outside) → Falls n why (one_piece Log (b ++ text Y)) old new → Falls n why (one_piece Log (b ++ (text Y ++ behind_y))) old new
  y_fell why b old new f = fell_here n why b (text Y) behind_y old new f

  pub n_fell : (why : Unwritten) (b b1 : Bytes) (old first new : Outside) → Hands n (b ++ text Y) b1 old first → Falls n why (one_piece Log (b1 ++ text N)) first new → Falls n why (one_piece Log (b ++ (text Y ++ behind_y))) old new
  n_fell why b b1 old first new y f =
      behind {T = Unit {0}} n b (text Y) b1 behind_y old first new (Err why) y (fell_here n why b1 (text N) behind_n first new f)

  pub x_fell : (why : Unwritten) (b b1 b2 : Bytes) (old first second new : Outside) → Hands n (b ++ text Y) b1 old first → Hands n (b1 ++ text N) b2 first second → Falls n why (one_piece Log (b2 ++ text X)) second new → Falls n why (one_piece Log (b ++ (text Y ++ behind_y))) old new
  x_fell why b b1 b2 old first second new y o f =
      behind {T = Unit {0}} n b (text Y) b1 behind_y old first new (Err why) y
      (behind {T = Unit {0}} n b1 (text N) b2 behind_n first second new (Err why) o (fell_here n why b2 (text X) (text S) second new f))

  -- whatever became of the last of them
  pub s_written : {T : Type 0} (b b1 b2 b3 : Bytes) (old first second third new : Outside) (result : Result T Unwritten) → Hands n (b ++ text Y) b1 old first → Hands n (b1 ++ text N) b2 first second → Hands n (b2 ++ text X) b3 second third → Writes n (one_piece Log (b3 ++ text S)) third new result → Writes n (one_piece Log (b ++ (text Y ++ behind_y))) old new result
  s_written b b1 b2 b3 old first second third new result y o x w =
      behind n b (text Y) b1 behind_y old first new result y
      (behind n b1 (text N) b2 behind_n first second new result o (behind n b2 (text X) b3 (text S) second third new result x w))
