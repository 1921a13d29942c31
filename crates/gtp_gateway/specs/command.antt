-- Commands, and the requests that they send.
pub mod Command
pub mod CreateBearer
pub mod CreateSession
pub mod DeleteBearer
pub mod DeleteSession
pub mod Echo
pub mod Purpose
pub mod ReleaseSession
pub mod Request
pub mod SendRequest
