-- What is complained of a refused model, event file or state.
use Rattle.std.specs.Prelude.{[], codes}
use Rattle.quantity.specs.Bytes.{Bytes}
use Rattle.event_list.specs.declared.refusal.EventRefusal.{EventRefusal}
use Rattle.event_list.specs.declared.refusal.EventRefusal.TheVariants as E
use Rattle.model_text.specs.Refusals.{Refusal, kind_text}
use Rattle.text_forms.specs.declared.refusal.StateRefusal.{StateRefusal}
use Rattle.text_forms.specs.declared.refusal.StateRefusal.TheVariants as S
use Rattle.answer_model.specs.Answer.{refused_text}

-- the complaint of a refused model
abbrev pub model_refused : Refusal → Bytes
model_refused r = refused_text (codes "model") r.line (kind_text r.kind)

-- want of memory has no line, here and below
abbrev pub events_refused : EventRefusal → Bytes
events_refused (E.BadEventLine line) = refused_text (codes "events") line (codes "1 BadEventLine")
events_refused (E.UnknownPort line) = refused_text (codes "events") line (codes "2 UnknownPort")
events_refused (E.TooLarge line) = refused_text (codes "events") line (codes "3 TooLarge")
events_refused E.Memory = []

-- the complaint of a refused state
abbrev pub state_refused : StateRefusal → Bytes
state_refused (S.BadStateLine line) = refused_text (codes "state") line (codes "1 BadStateLine")
state_refused (S.EndBefore line) = refused_text (codes "state") line (codes "2 EndBefore")
state_refused (S.TooLarge line) = refused_text (codes "state") line (codes "3 TooLarge")
state_refused S.Memory = []
