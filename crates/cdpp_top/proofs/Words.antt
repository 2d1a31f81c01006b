-- What words start.
use Rattle.std.proofs.Common.{◌≡◌, Some, None, List, [], sym, ap}
use Rattle.atomic_face.specs.declared.class.Class.{Class}
use Rattle.model_tree.specs.Tree.{Word}
use Rattle.room_edge.specs.Outside.{Files}
use Rattle.answer_model.specs.Asked.{Asked, asked_by_words}
use Rattle.answer_model.specs.ByWords.{usage}
use Rattle.quantity.specs.Written.{for_ok}
use Rattle.answer_model.specs.Started.{bad_words, or_stops, stops, inputs_read, started_by}
use Rattle.answer_model.specs.ByWords.{started_by_words}

pub asked_start : (words : List Word) (files : Files) (classes : List Class) (a : Asked) → Some a ≡ asked_by_words words → started_by_words words files classes ≡ inputs_read a files classes
unfolding started_by
asked_start words files classes a is = ap (λ o. for_ok (or_stops (bad_words usage) [] o) (λ a. inputs_read a files classes)) (sym is)

pub refused_start : (words : List Word) (files : Files) (classes : List Class) → None ≡ asked_by_words words → started_by_words words files classes ≡ stops (bad_words usage) []
unfolding started_by
refused_start words files classes is = ap (λ o. for_ok (or_stops (bad_words usage) [] o) (λ a. inputs_read a files classes)) (sym is)
