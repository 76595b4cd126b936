-- What each answer of the papers is among the values of include/wuraketozo.h: `Lists` of a list and a written payload, `Answer` of the table
-- and of a datagram that arrives.
pub mod Lists
pub mod Answer
