-- A session, the caller of a cache, as it begins its next call.
--     next_call   a session that has begun its next call
use Rattle.jc_session.specs.Counting.{one_more}
use Rattle.jc_session.specs.declared.session.Session.{Session}

abbrev pub next_call : {I J : Type 0} {D : I → Type 0} {E : J → Type 0} → Session I J D E → Session I J D E
next_call session =
    record session {
      agent = record session.agent { caller = record session.agent.caller { call = one_more session.agent.caller.call } };
    }
