mod RunAlong
mod Versions
mod Owners
mod SentBefore
